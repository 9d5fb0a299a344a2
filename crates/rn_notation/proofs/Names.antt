-- The names that the proofs of this crate take from below.
pub use Rattle.std.proofs.Common.{Bool, List, None, Option, Some, [], ap, append_assoc, arith, cond, drop, false, get_or, if◌then◌else◌, length, map, nat_eq, nat_le, nat_lt, not, pos, refl, reverse, rules, slice_get, subst, suc, sym, take, true, ℕ, ℤ, ◌&&◌, ◌*◌, ◌++◌, ◌+◌, ◌-◌, ◌/◌, ◌<◌, ◌^◌, ◌||◌, ◌∙◌, ◌∷◌, ◌≡◌, ◌≤◌}
pub use Rattle.std.specs.Prelude.{IsUtf8, bytes_eq, count_by, encode_utf8, encode_utf8_all, slice_index, string_bytes, ◌↔◌, ◌⊎◌}
pub use Rattle.std.specs.List.{AllByRecursion, flat_map, list_all, list_any, prefix_len}
pub use Rattle.std.proofs.lemmas.Bool.Decides.{nat_tests}
pub use Rattle.std.proofs.lemmas.List.{append-nil, drop_at, drop_more, get_or_append_left, length-append, length-reverse, nil_from_length, reverse-append, take-append-drop, take-take, take_at}
pub use Rattle.std.proofs.lemmas.List.Folds.{flat_map-map, length-prefix_len}
pub use Rattle.rn_items.proofs.Bools.{and_right, both_true, true_both}
pub use Rattle.rn_notation.specs.Texts.{AreParts, IsBroken, IsInComment, IsNoEscape, IsPart, Part, escape, escaped_byte, is_closed, is_special, itself, meaning, meant, spelled, written}
pub use Rattle.rn_notation.specs.Faults.{IsFault, begins_plainly, begins_something}
pub use Rattle.rn_notation.specs.link.Scanning.{Cuts, CutsInto, Found, GoesOn, HasParts, IsFirstPiece, IsRun, IsSpelledBy, ends_in_letter, fault, fault_in_text, long_sign, next_spot, spot_on}
pub use Rattle.rn_notation.specs.declared.token.Cause.{Cause}
pub use lib.Utf8.{low_scalar, scalar, scalars}
pub use Rattle.rn_value.specs.Characters.{is_digit, is_letter, is_name_byte, number_after}
pub use Rattle.rn_value.specs.Words.{begins_with, index_of, is_identifier}
pub use Rattle.rn_notation.specs.Words.{are_digits, begins_with_sign, greatest_number, is_blank, is_longest_sign, is_prefix_of, number_of, opens_comment}
pub use Rattle.rn_notation.specs.Tokens.{IsGap, IsToken}
pub use Rattle.rn_notation.specs.declared.token.TokenKind.TheVariants.{Name, Number, Sign, Text, Word}
pub use Rattle.rn_notation.specs.declared.token.Cause.TheVariants.{P1, P3, P4, P7}
pub use Rattle.std.proofs.lemmas.List.Sums.{count_by-le-length, prefix_len-le-length, sum_by-append}
pub use Rattle.rn_notation.specs.Spots.{is_line_end, spot_after}
pub use Rattle.rn_notation.specs.Reading.{ArePieces, Ascend, BeginsWith, FirstFault, IsReadingOf, IsSlice, IsTokens, NoOthers, NoOthersBefore, ReportsFault, StandsBefore, Tokens, bytes_of, fault_at, token_after, tokens_after}
pub use Rattle.rn_notation.specs.declared.piece.Piece.{Piece as Read}
pub use Rattle.rn_notation.specs.declared.token.Token.{Token}
pub use Rattle.rn_notation.specs.declared.token.TokenKind.{TokenKind}
pub use Rattle.rn_notation.specs.StoredTokens.{IsPrefixOf, IsStored, token_stored}
pub use Rattle.std.proofs.lemmas.Str.{IsUtf8-encode, encode_ascii, encode_same, len_utf8_bounds, length-encode}
pub use mathlib.Core.Logic.{inl, inr}
pub use Rattle.std.specs.Char.{IsScalar}
pub use Rattle.std.specs.Str.{IsValidUpTo, StartsWithNoChar}
