-- How far a text is read in items, and how that ends. This only connects the reader to the grammar.
use Rattle.std.specs.Prelude.{◌≡◌, ℕ, true, List, [], ◌∷◌, ◌++◌, length, drop, Result, Ok, Err}
use Rattle.rn_notation.specs.declared.token.Token.{Token}
use Rattle.rn_reading.specs.link.Stages.{BeginAlike}
use Rattle.rn_reading.specs.declared.fault.ReadFault.{ReadFault}
use Rattle.rn_reading.specs.declared.fault.ReadFault.TheVariants as Fault
use Rattle.rn_reading.specs.declared.fault.TextFault.{TextFault}
use Rattle.rn_reading.specs.declared.fault.TextFault.TheVariants as Why
use Rattle.rn_net.specs.declared.plain.Plain.{Plain}
use Rattle.rn_net.specs.Levels.{IsShallow, region_after, is_too_deep}
use Rattle.rn_net.specs.Levels.Region.{between}
use Rattle.rn_net.specs.Nets.{AreItems, plain_of, IsSystem}
use Rattle.rn_net.specs.Refusals.{IsBeginning, refusal_of}
use Rattle.rn_net.specs.declared.refusal.Refusal.{Refusal}
use Rattle.rn_net.specs.declared.refusal.Refusal.TheVariants as R

-- some tokens were taken, up to the first item or the end of one, and what was read is this
pub record Top (tokens left : List Token) (plain : Plain) : Type 0 where
  pub taken : List Token
  pub whole : tokens ≡ taken ++ left
  pub on : (ts : List Token) (p : Plain) → (ts ≡ [] → ⊥) → AreItems plain.notation plain ts p →
      IsSystem (taken ++ ts) p
  pub only : (ts : List Token) (p : Plain) → BeginAlike left ts → IsSystem (taken ++ ts) p →
      AreItems plain.notation plain ts p
  pub within : IsShallow between taken
  pub count : region_after between taken ≡ between

-- where no tokens are left, they are no system
abbrev pub IsBare : List Token → List Token → Type 0
IsBare tokens left = left ≡ [] → (p : Plain) → IsSystem tokens p → ⊥

-- the tokens up to an index are a beginning, and with the next they are none
pub record Halts (tokens : List Token) (k : ℕ) : Type 0 where
  pub before : List Token
  pub left : List Token
  pub parts : tokens ≡ before ++ left
  pub stands : k ≡ length before
  pub begins : IsBeginning before
  pub none : (ts : List Token) (p : Plain) → BeginAlike left ts → (ts ≡ [] → left ≡ []) →
      IsSystem (before ++ ts) p → ⊥
  pub within : IsShallow between before

-- the token at an index is a beginning's with those before it, and the first that is too deep
pub record Sinks (tokens : List Token) (k : ℕ) : Type 0 where
  pub before : List Token
  pub token : Token
  pub left : List Token
  pub parts : tokens ≡ before ++ token ∷ left
  pub stands : k ≡ length before
  pub begins : IsBeginning (before ++ token ∷ [])
  pub within : IsShallow between before
  pub deep : is_too_deep (region_after between before) token.kind ≡ true

-- what is said of tokens that begin no system, or not one without a token that is too deep
abbrev pub Ends : List Token → ReadFault → Type 0
Ends tokens (Fault.Stopped k) = Halts tokens k
Ends tokens (Fault.TooFar k) = Sinks tokens k
Ends tokens (Fault.NoMemory _) = Unit {0}

-- what comes before the items is taken, or isn't there
abbrev pub HeaderAnswer : List Token → Result (ℕ × ℕ) ReadFault → Type 0
HeaderAnswer tokens (Ok (notation, at)) =
    Top tokens (drop at tokens) (plain_of notation [] []) × IsBare tokens (drop at tokens)
HeaderAnswer tokens (Err fault) = Ends tokens fault

abbrev pub SystemAnswer : List Token → Result (Plain × ℕ) ReadFault → Type 0
SystemAnswer tokens (Ok (plain, end)) =
    Top tokens [] plain × IsSystem tokens plain × (end ≡ length tokens)
SystemAnswer tokens (Err fault) = Ends tokens fault

-- how it is reported that tokens are no system
abbrev pub report : TextFault → Refusal
report (Why.Stopped spot) = R.P2 spot
report (Why.TooFar spot) = R.P5 spot
report (Why.Lexical fault) = refusal_of fault
report (Why.NoMemory no_memory) = R.NoMemory no_memory

abbrev pub answer_of : Result Plain TextFault → Result Plain Refusal
answer_of (Ok plain) = Ok plain
answer_of (Err why) = Err (report why)
