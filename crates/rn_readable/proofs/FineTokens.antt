-- The numbers among the tokens of a text have 64 bits with either sign, and its texts are UTF-8.
use Rattle.std.proofs.Common.{◌≡◌, ℕ, pos, ◌<◌, ◌≤◌, true, List, [], ◌∷◌, ◌++◌, refl, sym}
use Rattle.std.proofs.Common.{subst, arith}
use Rattle.std.specs.Prelude.{Option, Some, None, option_to_list}
use Rattle.std.specs.Prelude.{zero, suc, neg_ℤ}
use Rattle.std.specs.List.{AllByRecursion}
use Rattle.std.specs.Str.{IsUtf8, is_utf8}
use Rattle.std.proofs.lemmas.Bool.Decides.{nat_tests}
use Rattle.std.proofs.lemmas.Grind.{common_steps}
use Rattle.std.proofs.lemmas.Str.{encode_ascii, IsUtf8-nil, IsUtf8-append, IsUtf8-encode}
use Rattle.std.proofs.lemmas.Str.{is_utf8-from_IsUtf8}
use Rattle.std.proofs.lemmas.Option.{same_Some}
use Rattle.rn_notation.specs.Words.{number_of}
use Rattle.rn_notation.specs.Texts.{Part, itself, escape, IsPart, AreParts, meaning, meant}
use Rattle.rn_notation.specs.Texts.{escaped_byte}
use Rattle.rn_notation.specs.Tokens.{IsToken}
use Rattle.rn_notation.specs.Reading.{Piece, gap, token, ArePieces, tokens_after, Tokens}
use Rattle.rn_notation.specs.declared.token.Token.{Token}
use Rattle.rn_notation.specs.declared.token.TokenKind.{TokenKind}
use Rattle.rn_notation.specs.declared.token.TokenKind.TheVariants.{Name, Word, Number, Text, Sign}
use lib.Utf8.{low_scalar}
use Rattle.rn_lines.specs.Laws.{has_sixty_four_bits}

-- a number has 64 bits, and so it has with a `-` before it; a text is UTF-8
abbrev pub IsFineKind : TokenKind → Type 0
IsFineKind (Number n) = (has_sixty_four_bits n ≡ true) × (has_sixty_four_bits (neg_ℤ n) ≡ true)
IsFineKind (Text s) = is_utf8 s ≡ true
IsFineKind (Name s) = Unit {0}
IsFineKind (Word k) = Unit {0}
IsFineKind (Sign k) = Unit {0}

abbrev pub AreFineTokens : List Token → Type 0
AreFineTokens = AllByRecursion (λ t. IsFineKind t.kind)

few_bits : (n : ℕ) → n ≤ 9223372036854775807 → has_sixty_four_bits (pos n) ≡ true
few_bits n h = let low : n < 9223372036854775808 = omega (arith, h) in grind (arith, nat_tests)

few_below : (n : ℕ) → n ≤ 9223372036854775807 → has_sixty_four_bits (neg_ℤ (pos n)) ≡ true
few_below zero h = refl
few_below (suc n) h =
    let low : n < 9223372036854775808 = omega (arith, h) in grind (arith, nat_tests)

-- what an escape stands for is one byte below 128
one_byte : (c : ℕ) (o : Option ℕ) → o ≡ Some c → c < 128 → IsUtf8 (option_to_list o)
one_byte c None e low = absurd (let no : ⊥ = cc in no)
one_byte c (Some d) e low =
    let same : c ≡ d = sym (same_Some d c e) in
    subst (λ b. IsUtf8 (b ∷ [])) same
    (subst IsUtf8 (encode_ascii c low) (IsUtf8-encode c (low_scalar c (omega (arith, low)))))

escaped_low : (c byte : ℕ) → escaped_byte c ≡ Some byte → byte < 128
escaped_low c byte e = grind (arith, nat_tests, common_steps)

part_utf8 : (p : Part) → IsPart p → IsUtf8 (meaning p)
part_utf8 (itself c) (scalar, plain) = IsUtf8-encode c scalar
part_utf8 (escape c) (byte, is) = one_byte byte (escaped_byte c) is (escaped_low c byte is)

parts_utf8 : (parts : List Part) → AreParts parts → IsUtf8 (meant parts)
parts_utf8 [] are = IsUtf8-nil
parts_utf8 (p ∷ parts) are =
    IsUtf8-append (meaning p) (meant parts) (part_utf8 p are.0) (parts_utf8 parts are.1)

token_is_fine : {kind : TokenKind} {prefix rest : List ℕ} → IsToken kind prefix rest →
    IsFineKind kind
token_is_fine (IsToken.name is stops none) = tt
token_is_fine (IsToken.word is stops at) = tt
token_is_fine (IsToken.number {digits = digits} is stops low) =
    (few_bits (number_of digits) low, few_below (number_of digits) low)
token_is_fine (IsToken.text parts are) = is_utf8-from_IsUtf8 (meant parts) (parts_utf8 parts are)
token_is_fine (IsToken.sign at longest code) = tt

pieces_are_fine : (before text : List ℕ) (ps : List Piece) (rest : List ℕ) →
    ArePieces text ps rest → AreFineTokens (tokens_after before ps)
pieces_are_fine before text [] rest stand = tt
pieces_are_fine before text (gap prefix ∷ ps) rest (after, e, fits, others) =
    pieces_are_fine (before ++ prefix) after ps rest others
pieces_are_fine before text (token kind prefix ∷ ps) rest (after, e, fits, others) =
    (token_is_fine fits, pieces_are_fine (before ++ prefix) after ps rest others)

pub tokens_are_fine : {text : List ℕ} {tokens : List Token} → Tokens text tokens →
    AreFineTokens tokens
tokens_are_fine {text = text} t =
    subst AreFineTokens (sym t.among) (pieces_are_fine [] text t.pieces [] t.stand)
