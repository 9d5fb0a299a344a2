-- Levels and operators, counted along the tokens of one expression or inscription.
use Rattle.std.specs.Prelude.{ℕ, ◌+◌, Bool, true, false, not, ◌&&◌, ◌||◌, List, [], ◌∷◌}
use Rattle.std.specs.Prelude.{length, nat_eq, nat_le, if◌then◌else◌, drop}
use Rattle.std.specs.List.{list_any}
use Rattle.rn_notation.specs.declared.sign.TheConstants as sign
use Rattle.rn_notation.specs.declared.word.TheConstants as word
use Rattle.rn_notation.specs.declared.token.Token.{Token}
use Rattle.rn_notation.specs.declared.token.TokenKind.{TokenKind}
use Rattle.rn_notation.specs.declared.token.TokenKind.TheVariants.{Name, Word, Number, Text, Sign}
use Rattle.rn_model.specs.Limits.{most_nested}
use Rattle.rn_reading.specs.Counting as Counted
use Rattle.rn_reading.specs.Counting.{Counting}

-- how many operators an expression or an inscription has at most
abbrev pub most_operators : ℕ
most_operators = 256

-- What opens a level: a bracket until it closes, and a unary minus until its operand ends.
pub data Level : Type 0 where
  bracket : Level
  negative : Level

-- What stands open before a token, the newest first, whether the token before it ends an operand,
-- and how many operators came before it.
pub record Count : Type 0 where
  pub levels : List Level
  pub ended : Bool
  pub operators : ℕ

-- `{`, `[` and `(`
abbrev pub opens : TokenKind → Bool
opens (Sign k) = list_any (nat_eq k)
    (sign.LEFT_BRACE ∷ sign.LEFT_BRACKET ∷ sign.LEFT_PAREN ∷ [])
opens _ = false

-- `}`, `]` and `)`
abbrev pub closes : TokenKind → Bool
closes (Sign k) = list_any (nat_eq k)
    (sign.RIGHT_BRACE ∷ sign.RIGHT_BRACKET ∷ sign.RIGHT_PAREN ∷ [])
closes _ = false

-- `-`, unary or not
abbrev pub is_minus : TokenKind → Bool
is_minus (Sign k) = nat_eq k sign.MINUS
is_minus _ = false

-- `(`
abbrev pub is_paren : TokenKind → Bool
is_paren (Sign k) = nat_eq k sign.LEFT_PAREN
is_paren _ = false

-- `+ - * / %`, comparisons, `&&`, `||` and `!`: the signs from `==` on
abbrev pub is_operator : TokenKind → Bool
is_operator (Sign k) = nat_le sign.SAME k
is_operator _ = false

-- a number, a text, a name, `this` or a closing bracket
abbrev pub ends_operand : TokenKind → Bool
ends_operand (Name s) = true
ends_operand (Number n) = true
ends_operand (Text s) = true
ends_operand (Word k) = nat_eq k word.THIS
ends_operand (Sign k) = closes (Sign k)

-- the levels without the unary minuses that were opened last
abbrev pub without_minuses : List Level → List Level
without_minuses [] = []
without_minuses (bracket ∷ levels) = bracket ∷ levels
without_minuses (negative ∷ levels) = without_minuses levels

-- The levels in which a token stands. A unary minus is closed once its operand has ended, and a name
-- that `(` follows is no end: it is the name of `step()` or of a channel.
abbrev pub levels_at : Count → TokenKind → List Level
levels_at c kind = if c.ended && not (is_paren kind) then without_minuses c.levels else c.levels

-- whether a token opens a level: a bracket, or a minus where an operand has to begin
abbrev pub opens_level : Count → TokenKind → Bool
opens_level c kind = opens kind || (is_minus kind && not c.ended)

-- the levels after a token
abbrev pub levels_after : Count → TokenKind → List Level
levels_after c kind =
    if opens kind then bracket ∷ levels_at c kind
    else if closes kind then drop 1 (levels_at c kind)
    else if is_minus kind && not c.ended then negative ∷ levels_at c kind
    else levels_at c kind

-- what stands open after a token, and how many operators came up to and with it
abbrev pub after_token : Count → TokenKind → Count
after_token c kind = record {
  levels = levels_after c kind;
  ended = ends_operand kind;
  operators = if is_operator kind then c.operators + 1 else c.operators;
}

-- whether a token opens level 65 or is the 257th operator
abbrev pub goes_too_far : Count → TokenKind → Bool
goes_too_far c kind =
    (opens_level c kind && nat_le most_nested (length (levels_at c kind)))
    || (is_operator kind && nat_le most_operators c.operators)

-- at the first token
abbrev pub at_first : Count
at_first = record { levels = []; ended = false; operators = 0 }

-- what is counted along the tokens
abbrev pub inscript_counting : Counting
inscript_counting = record { Count = Count; after = after_token; is_too_far = goes_too_far }

-- after some tokens
abbrev pub count_after : Count → List Token → Count
count_after c tokens = Counted.count_after inscript_counting c tokens

-- none of these tokens opens level 65 or is the 257th operator
abbrev pub IsWithin : Count → List Token → Type 0
IsWithin c tokens = Counted.IsWithin inscript_counting c tokens
