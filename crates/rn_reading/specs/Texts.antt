-- Whole texts of a grammar, and where and why tokens are none.
use Rattle.std.specs.Prelude.{◌≡◌, ℕ, ◌⊎◌, true, List, [], ◌∷◌, ◌++◌, Result, Ok, Err}
use Rattle.std.specs.Prelude.{Option, Some, None}
use Rattle.rn_notation.specs.Reading.{Tokens, FirstFault}
use Rattle.rn_notation.specs.declared.token.Spot.{Spot}
use Rattle.rn_notation.specs.declared.token.Token.{Token}
use Rattle.rn_notation.specs.declared.token.LexFault.{LexFault}
use Rattle.rn_notation.specs.declared.token.Lexed.{Lexed}
use Rattle.rn_reading.specs.declared.fault.ReadFault.{ReadFault}
use Rattle.rn_reading.specs.declared.fault.ReadFault.TheVariants as Fault
use Rattle.rn_reading.specs.declared.fault.TextFault.{TextFault}
use Rattle.rn_reading.specs.declared.fault.TextFault.TheVariants as Why
use Rattle.rn_reading.specs.Phrases.{Phrases}
use Rattle.rn_reading.specs.Counting.{Counting, count_after, IsWithin}
use Rattle.rn_reading.specs.link.Stages.{IsNext, HasNoNext}

-- the tokens are such a phrase, and nothing more
abbrev pub IsWhole : {A : Type 0} → Phrases A → List Token → A → Type 0
IsWhole X tokens a = X tokens a []

-- some tokens continue these to a whole phrase
abbrev pub IsBeginning : {A : Type 0} → Phrases A → List Token → Type 0
IsBeginning {A = A} X taken = (more : List Token) × (a : A) × IsWhole X (taken ++ more) a

-- A token can't follow: those before it begin a whole phrase, and with it they begin none. None
-- before it goes too far.
pub record IsStopped (C : Counting) (first : C.Count) {A : Type 0} (X : Phrases A)
    (tokens : List Token) (spot : Spot) : Type 0 where
  pub before : List Token
  pub token : Token
  pub left : List Token
  pub parts : tokens ≡ before ++ token ∷ left
  pub begins : IsBeginning X before
  pub none : IsBeginning X (before ++ token ∷ []) → ⊥
  pub within : IsWithin C first before
  pub stands : spot ≡ token.spot

-- A token that can follow goes too far, and none before it does.
pub record IsDeep (C : Counting) (first : C.Count) {A : Type 0} (X : Phrases A)
    (tokens : List Token) (spot : Spot) : Type 0 where
  pub before : List Token
  pub token : Token
  pub left : List Token
  pub parts : tokens ≡ before ++ token ∷ left
  pub begins : IsBeginning X (before ++ token ∷ [])
  pub within : IsWithin C first before
  pub far : C.is_too_far (count_after C first before) token.kind ≡ true
  pub stands : spot ≡ token.spot

-- each of the tokens can follow those before it, and none goes too far
abbrev pub AreFine : (C : Counting) → C.Count → {A : Type 0} → Phrases A → List Token → Type 0
AreFine C first X tokens = IsBeginning X tokens × IsWithin C first tokens

-- the tokens of a text up to its first fault, or all of them
abbrev pub AreTokensOf : List ℕ → List Token → Type 0
AreTokensOf bytes tokens =
    Tokens bytes tokens ⊎ ((fault : LexFault) × FirstFault bytes tokens fault)

-- where the text ends, each of its tokens can follow, and they aren't whole
abbrev pub IsUnfinished : (C : Counting) → C.Count → {A : Type 0} → Phrases A → Lexed → Spot →
    Type 0
IsUnfinished C first {A = A} X lexed spot =
    (lexed.fault ≡ None) × (spot ≡ lexed.end) × AreFine C first X lexed.tokens
    × ((a : A) → IsWhole X lexed.tokens a → ⊥)

-- Why a text of which this was lexed is none: one of the tokens before its first fault can't
-- follow, or goes too far; or it has a fault, and all tokens before it are fine; or all of its
-- tokens are fine, and aren't whole.
abbrev pub Explains : (C : Counting) → C.Count → {A : Type 0} → Phrases A → Lexed → TextFault →
    Type 0
Explains C first X lexed (Why.Stopped spot) =
    IsStopped C first X lexed.tokens spot ⊎ IsUnfinished C first X lexed spot
Explains C first X lexed (Why.TooFar spot) = IsDeep C first X lexed.tokens spot
Explains C first X lexed (Why.Lexical fault) =
    (lexed.fault ≡ Some fault) × AreFine C first X lexed.tokens
Explains C first X lexed (Why.NoMemory _) = Unit {0}

-- all tokens are such a phrase, and no other, there is no fault, and none goes too far
pub record IsAlone (C : Counting) (first : C.Count) {A : Type 0} (X : Phrases A) (lexed : Lexed)
    (a : A) : Type 0 where
  pub faultless : lexed.fault ≡ None
  pub whole : IsWhole X lexed.tokens a
  pub only : (b : A) → IsWhole X lexed.tokens b → b ≡ a
  pub within : IsWithin C first lexed.tokens

-- what reading a whole text comes to
abbrev pub Settles : (C : Counting) → C.Count → {A : Type 0} → Phrases A → Lexed →
    Result A TextFault → Type 0
Settles C first X lexed (Ok a) = IsAlone C first X lexed a
Settles C first X lexed (Err why) = Explains C first X lexed why

-- what comes after the last token that was lexed: the fault, or the end
abbrev pub after_tokens : Option LexFault → Spot → TextFault
after_tokens (Some fault) end = Why.Lexical fault
after_tokens None end = Why.Stopped end

-- what is reported where reading stops at an index: the token there, or what comes after the last
abbrev pub IsStopAt : Lexed → ℕ → TextFault → Type 0
IsStopAt lexed at why =
    ((t : Token) × IsNext lexed.tokens at t × (why ≡ Why.Stopped t.spot))
    ⊎ (HasNoNext lexed.tokens at × (why ≡ after_tokens lexed.fault lexed.end))

-- what is reported where a token at an index goes too far, if one is there
abbrev pub IsDeepAt : Lexed → ℕ → TextFault → Type 0
IsDeepAt lexed at why =
    ((t : Token) × IsNext lexed.tokens at t × (why ≡ Why.TooFar t.spot))
    ⊎ HasNoNext lexed.tokens at

-- what is reported where a phrase ends at an index, and a token or a fault comes after it
abbrev pub IsCutAt : Lexed → ℕ → TextFault → Type 0
IsCutAt lexed at why =
    ((t : Token) × IsNext lexed.tokens at t × (why ≡ Why.Stopped t.spot))
    ⊎ ((fault : LexFault) × HasNoNext lexed.tokens at × (lexed.fault ≡ Some fault)
    × (why ≡ Why.Lexical fault))

-- the answer for a whole text, from what was read of its tokens
abbrev pub WholeOf : {A : Type 0} → Lexed → Result (A × ℕ) ReadFault → Result A TextFault → Type 0
WholeOf lexed (Ok (a, end)) (Ok b) =
    (b ≡ a) × HasNoNext lexed.tokens end × (lexed.fault ≡ None)
WholeOf lexed (Ok (a, end)) (Err why) = IsCutAt lexed end why
WholeOf lexed (Err (Fault.Stopped k)) (Err why) = IsStopAt lexed k why
WholeOf lexed (Err (Fault.TooFar k)) (Err why) = IsDeepAt lexed k why
WholeOf lexed (Err (Fault.NoMemory refused)) (Err why) = why ≡ Why.NoMemory refused
WholeOf lexed (Err e) (Ok b) = ⊥
