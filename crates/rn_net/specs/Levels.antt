-- Levels and operators, counted along the tokens of a whole net text.
use Rattle.std.specs.Prelude.{ℕ, ◌+◌, ◌-◌, Bool, false, ◌&&◌, ◌||◌, List}
use Rattle.std.specs.Prelude.{nat_eq, nat_le, if◌then◌else◌}
use Rattle.rn_notation.specs.declared.sign.TheConstants as sign
use Rattle.rn_notation.specs.declared.word.TheConstants as word
use Rattle.rn_notation.specs.declared.token.Token.{Token}
use Rattle.rn_notation.specs.declared.token.TokenKind.{TokenKind}
use Rattle.rn_notation.specs.declared.token.TokenKind.TheVariants.{Word, Sign}
use Rattle.rn_reading.specs.Counting.{Counting, count_after, IsWithin}
use Rattle.rn_model.specs.Limits.{most_nested}
use Rattle.rn_inscript.specs.Levels.{Count, at_first, after_token, opens, closes, goes_too_far}

-- Where a token stands: between the statements of a text, in the heading of a net or transition,
-- which ends with its brace, in a declaration of a channel, of variables or of a place, or in an
-- inscription. In the last two so many brackets are open.
pub data Region : Type 0 where
  between : Region
  heading : Region
  declaring : ℕ → Region
  inscribing : ℕ → Count → Region

-- how many brackets are open after a token
abbrev pub open_after : ℕ → TokenKind → ℕ
open_after n kind = if opens kind then n + 1 else if closes kind then n - 1 else n

-- where the token after one stands that begins an inscription
abbrev pub inscribed_from : TokenKind → Region
inscribed_from kind = inscribing (open_after 0 kind) (after_token at_first kind)

-- where the token after a word stands that begins a statement
abbrev pub begun_by_word : ℕ → Region
begun_by_word k =
    if nat_eq k word.NET || nat_eq k word.TRANS then heading
    else if nat_eq k word.CHANNEL || (nat_eq k word.VAR || nat_eq k word.PLACE) then declaring 0
    else inscribed_from (Word k)

-- where the token after one stands that begins a statement, or is the closing brace of a net or
-- transition
abbrev pub begun_by : TokenKind → Region
begun_by (Word k) = begun_by_word k
begun_by (Sign k) = if nat_eq k sign.RIGHT_BRACE then between else inscribed_from (Sign k)
begun_by kind = inscribed_from kind

abbrev pub is_semicolon : TokenKind → Bool
is_semicolon (Sign k) = nat_eq k sign.SEMICOLON
is_semicolon _ = false

abbrev pub is_comma : TokenKind → Bool
is_comma (Sign k) = nat_eq k sign.COMMA
is_comma _ = false

abbrev pub is_brace : TokenKind → Bool
is_brace (Sign k) = nat_eq k sign.LEFT_BRACE
is_brace _ = false

-- where the token after one stands that is in a declaration
abbrev pub declared_by : ℕ → TokenKind → Region
declared_by n kind = if is_semicolon kind then between else declaring (open_after n kind)

-- where the token after one stands that is in an inscription: each inscription of an arc counts its
-- own levels and operators
abbrev pub inscribed_by : ℕ → Count → TokenKind → Region
inscribed_by n c kind =
    if is_semicolon kind then between
    else if is_comma kind && nat_eq n 0 then inscribing 0 at_first
    else inscribing (open_after n kind) (after_token c kind)

-- Where the token after this one stands. A semicolon ends a declaration and an inscription, and a
-- comma outside of all brackets ends one inscription of an arc.
abbrev pub after : Region → TokenKind → Region
after between kind = begun_by kind
after heading kind = if is_brace kind then between else heading
after (declaring n) kind = declared_by n kind
after (inscribing n c) kind = inscribed_by n c kind

-- Whether a token opens level 65, or is the 257th operator of its inscription. The minus of a
-- constant opens no level and is no operator.
abbrev pub is_too_deep : Region → TokenKind → Bool
is_too_deep (declaring n) kind = opens kind && nat_le most_nested n
is_too_deep (inscribing n c) kind = goes_too_far c kind
is_too_deep _ kind = false

-- what is counted along the tokens of a net text
abbrev pub net_counting : Counting
net_counting = record { Count = Region; after = after; is_too_far = is_too_deep }

-- after some tokens
abbrev pub region_after : Region → List Token → Region
region_after r ts = count_after net_counting r ts

-- none of these tokens opens level 65 or is the 257th operator of its inscription
abbrev pub IsShallow : Region → List Token → Type 0
IsShallow r ts = IsWithin net_counting r ts
