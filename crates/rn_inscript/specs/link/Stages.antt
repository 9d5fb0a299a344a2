-- How far a reader has come in a phrase, and how its reading ends.
use Rattle.std.specs.Prelude.{◌≡◌, ℕ, ◌+◌, ◌<◌, ◌≤◌, true, false, List, [], ◌∷◌, length, ◌⊎◌}
use Rattle.std.specs.Prelude.{drop, Result, Ok, Err, nat_eq, nat_le, ◌&&◌, if◌then◌else◌}
use Rattle.rn_notation.specs.declared.sign.TheConstants as sign
use Rattle.rn_notation.specs.declared.token.Token.{Token}
use Rattle.rn_notation.specs.declared.token.TokenKind.{TokenKind}
use Rattle.rn_notation.specs.declared.token.TokenKind.TheVariants.{Sign}
use Rattle.rn_reading.specs.Phrases.{Phrases, Done}
use Rattle.rn_reading.specs.link.Stages as Reading
use Rattle.rn_reading.specs.link.Stages.{IsNext}
use Rattle.rn_inscript.specs.Levels.{Level, Count, inscript_counting, without_minuses}
use Rattle.rn_reading.specs.declared.fault.ReadFault.{ReadFault}
use Rattle.rn_reading.specs.declared.fault.ReadFault.TheVariants as Fault
use Rattle.rn_inscript.specs.declared.cursor.Seen.{Seen}

-- one token of a kind
abbrev pub Takes : {A : Type 0} → TokenKind → A → Phrases A
Takes kind a ts e rest = (t : Token) × (ts ≡ t ∷ rest) × (t.kind ≡ kind) × (e ≡ a)

-- how much signs bind that follow a whole phrase, from `||` and `&&` to an opening parenthesis
abbrev pub or_strength : ℕ
or_strength = 1

abbrev pub and_strength : ℕ
and_strength = 2

abbrev pub comparing_strength : ℕ
comparing_strength = 3

abbrev pub sum_strength : ℕ
sum_strength = 4

abbrev pub product_strength : ℕ
product_strength = 5

abbrev pub call_strength : ℕ
call_strength = 6

-- how much a sign binds that follows a whole phrase: what is no such sign binds nothing
abbrev pub sign_strength : ℕ → ℕ
sign_strength k =
    if nat_eq k sign.LEFT_PAREN then call_strength
    else if nat_le sign.STAR k && nat_le k sign.PERCENT then product_strength
    else if nat_le sign.PLUS k && nat_le k sign.MINUS then sum_strength
    else if nat_le sign.SAME k && nat_le k sign.AT_LEAST then comparing_strength
    else if nat_eq k sign.COMMA then comparing_strength
    else if nat_eq k sign.AND then and_strength
    else if nat_eq k sign.OR then or_strength
    else 0

abbrev pub strength : TokenKind → ℕ
strength (Sign k) = sign_strength k
strength _ = 0

-- the tokens don't begin with a sign that binds so much
abbrev pub Ends : ℕ → List Token → Type 0
Ends n [] = Unit {0}
Ends n (t ∷ ts) = strength t.kind < n

-- stages of reading with levels and operators counted, where no sign that binds so much may follow
abbrev pub Stage : {A : Type 0} → ℕ → Phrases A → List Token → Count → Phrases A → List Token →
    Count → Type 0
Stage n X start first Y left now =
    Reading.Progress inscript_counting (Ends n) X start first Y left now

-- how such a reading fails
abbrev pub Fails : {A : Type 0} → ℕ → Phrases A → List Token → Count → ℕ → ReadFault → Type 0
Fails n X start first total fault =
    Reading.Fails inscript_counting (Ends n) X start first total fault

-- where an operand has to begin
abbrev pub ready : List Level → ℕ → Count
ready levels operators = record { levels = levels; ended = false; operators = operators }

-- where an operand has ended
abbrev pub ended : List Level → ℕ → Count
ended levels operators = record { levels = levels; ended = true; operators = operators }

-- Some tokens of a phrase were taken, up to the end of an operand, and what is left of it is one of
-- these. The levels opened on the way are closed, but for unary minuses whose operand has just
-- ended.
pub record IsSoFar {A : Type 0} (n : ℕ) (X : Phrases A) (tokens : List Token) (before : Seen)
    (first : Count) (around : List Level) (Y : Phrases A) (now : Seen) : Type 0 where
  pub open_now : List Level
  pub closed : without_minuses open_now ≡ without_minuses around
  pub stage : Stage n X (drop before.at tokens) first Y (drop now.at tokens)
      (ended open_now now.operators)

-- the token at an index has this kind
abbrev pub IsNextKind : List Token → ℕ → TokenKind → Type 0
IsNextKind tokens at kind = (t : Token) × IsNext tokens at t × (t.kind ≡ kind)

abbrev pub IsNextSign : List Token → ℕ → ℕ → Type 0
IsNextSign tokens at sign = IsNextKind tokens at (Sign sign)

-- no token is at an index, or one of another kind
abbrev pub IsNotNextSign : List Token → ℕ → ℕ → Type 0
IsNotNextSign tokens at sign =
    (t : Token) (others : List Token) → drop at tokens ≡ t ∷ others → t.kind ≡ Sign sign → ⊥

-- past a token, which is no operator, or is one
abbrev pub past : Seen → Seen
past seen = record { at = seen.at + 1; operators = seen.operators }

abbrev pub past_operator : Seen → Seen
past_operator seen = record { at = seen.at + 1; operators = seen.operators + 1 }

-- what a reader returns
abbrev pub ReadsFrom : {A : Type 0} → ℕ → Phrases A → List Token → Seen → Count → List Level →
    Result (A × Seen) ReadFault → Type 0
ReadsFrom n X tokens before first around (Ok (a, after)) =
    IsSoFar n X tokens before first around (Done a) after
ReadsFrom n X tokens before first around (Err e) =
    Fails n X (drop before.at tokens) first (length tokens) e

-- a reader that returns something goes on among the tokens
abbrev pub HasMoved : List Token → Seen → Seen → Type 0
HasMoved tokens before now = (before.at ≤ now.at) × (now.at ≤ length tokens)

abbrev pub MovesOn : {A : Type 0} → List Token → Seen → Result (A × Seen) ReadFault → Type 0
MovesOn tokens before (Ok (a, after)) = HasMoved tokens before after
MovesOn tokens before (Err e) = Unit {0}

-- what a reader of a phrase returns that begins where an operand has to
abbrev pub Reads : {A : Type 0} → ℕ → Phrases A → List Token → Seen → List Level →
    Result (A × Seen) ReadFault → Type 0
Reads n X tokens before around result =
    ReadsFrom n X tokens before (ready around before.operators) around result

-- `]` or `)`
abbrev pub IsClose : ℕ → Type 0
IsClose k = (k ≡ sign.RIGHT_BRACKET) ⊎ (k ≡ sign.RIGHT_PAREN)

-- no opening parenthesis is next, or it opens a level too many
abbrev pub IsBadOpening : List Token → Seen → ℕ → ReadFault → Type 0
IsBadOpening tokens seen levels fault =
    (IsNotNextSign tokens seen.at sign.LEFT_PAREN × (fault ≡ Fault.Stopped seen.at))
    ⊎ (IsNextSign tokens seen.at sign.LEFT_PAREN × (levels ≡ 0) × (fault ≡ Fault.TooFar seen.at))
