-- What a reading from some index on has to be. It is of expressions or of inscriptions: `Whole` says
-- which lists of tokens are such phrases, and what each stands for.
use Rattle.std.specs.Prelude.{◌≡◌, ℕ, ◌+◌, ◌≤◌, true, List, [], ◌∷◌, ◌++◌, length, drop, Result, Ok, Err}
use Rattle.rn_notation.specs.declared.token.Token.{Token}
use Rattle.rn_inscript.specs.declared.exprs.PExpr.{PExpr}
use Rattle.rn_inscript.specs.declared.fault.InscriptFault.{InscriptFault}
use Rattle.rn_inscript.specs.declared.fault.InscriptFault.TheVariants as Fault
use Rattle.rn_inscript.specs.declared.inscriptions.PInscribed.{PInscribed}
use Rattle.rn_inscript.specs.Expressions.{IsExpr}
use Rattle.rn_inscript.specs.Inscriptions.{IsInscribed}
use Rattle.rn_inscript.specs.Levels.{IsWithin, at_first, count_after, goes_too_far}

abbrev pub Wholes : Type 0 → Type 1
Wholes A = List Token → A → Type 0

-- the tokens are an expression, and nothing else
abbrev pub IsWholeExpr : Wholes PExpr
IsWholeExpr tokens e = IsExpr tokens e []

-- the tokens are some form of inscription, and nothing else
abbrev pub IsWholeForm : Wholes PInscribed
IsWholeForm tokens form = IsInscribed tokens form []

-- some tokens continue these to a whole phrase: they are a prefix of it
abbrev pub IsPrefix : {A : Type 0} → Wholes A → List Token → Type 0
IsPrefix {A = A} Whole taken = (more : List Token) × (a : A) × Whole (taken ++ more) a

-- The tokens taken are the longest prefix of the tokens that is a prefix of some whole phrase.
pub record IsLongest {A : Type 0} (Whole : Wholes A) (tokens taken : List Token) : Type 0 where
  pub left : List Token
  pub parts : tokens ≡ taken ++ left
  pub prefix : IsPrefix Whole taken
  pub longest : (others rest : List Token) → tokens ≡ others ++ rest → IsPrefix Whole others →
      length others ≤ length taken

-- The tokens taken from an index on are a whole phrase, and none of them goes too far.
pub record IsReading {A : Type 0} (Whole : Wholes A) (tokens : List Token) (at : ℕ) (a : A)
    (end : ℕ) : Type 0 where
  pub taken : List Token
  pub longest : IsLongest Whole (drop at tokens) taken
  pub whole : Whole taken a
  pub within : IsWithin at_first taken
  pub ends : end ≡ at + length taken

-- The tokens taken from an index on are no whole phrase, and none of them goes too far. The next
-- can't follow them.
pub record IsStopped {A : Type 0} (Whole : Wholes A) (tokens : List Token) (at k : ℕ) : Type 0 where
  pub taken : List Token
  pub longest : IsLongest Whole (drop at tokens) taken
  pub not_whole : (a : A) → Whole taken a → ⊥
  pub within : IsWithin at_first taken
  pub stops : k ≡ at + length taken

-- One of the tokens taken from an index on opens level 65 or is the 257th operator, and none before
-- it does.
pub record IsDeep {A : Type 0} (Whole : Wholes A) (tokens : List Token) (at k : ℕ) : Type 0 where
  pub before : List Token
  pub token : Token
  pub left : List Token
  pub parts : drop at tokens ≡ before ++ token ∷ left
  pub prefix : IsPrefix Whole (before ++ token ∷ [])
  pub within : IsWithin at_first before
  pub far : goes_too_far (count_after at_first before) token.kind ≡ true
  pub stands : k ≡ at + length before

-- what a refusal says
abbrev pub IsRefusal : {A : Type 0} → Wholes A → List Token → ℕ → InscriptFault → Type 0
IsRefusal Whole tokens at (Fault.P2 k) = IsStopped Whole tokens at k
IsRefusal Whole tokens at (Fault.P5 k) = IsDeep Whole tokens at k
IsRefusal Whole tokens at (Fault.NoMemory _) = Unit {0}

-- this is the answer, unless memory ran out
abbrev pub Answers : {A : Type 0} → Result A InscriptFault → Result A InscriptFault → Type 0
Answers (Err (Fault.NoMemory _)) expected = Unit {0}
Answers result expected = result ≡ expected

-- what an answer says: the longest reading, and nothing else is a reading of the tokens taken, or
-- why there is none
abbrev pub IsAnswer : {A : Type 0} → Wholes A → List Token → ℕ → Result (A × ℕ) InscriptFault →
    Type 0
IsAnswer {A = A} Whole tokens at (Ok (a, end)) =
    (r : IsReading Whole tokens at a end) × ((b : A) → Whole r.taken b → b ≡ a)
IsAnswer Whole tokens at (Err fault) = IsRefusal Whole tokens at fault
