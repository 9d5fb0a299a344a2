-- How far a reader has come in a phrase, and how its reading ends. This only connects readers to a
-- grammar.
use Rattle.std.specs.Prelude.{◌≡◌, refl, ℕ, ◌+◌, ◌<◌, ◌≤◌, true, List, [], ◌∷◌, ◌++◌, length, drop}
use Rattle.std.specs.Prelude.{Result, Ok, Err, Option, Some, None}
use Rattle.rn_notation.specs.declared.token.Token.{Token}
use Rattle.rn_reading.specs.declared.fault.ReadFault.{ReadFault}
use Rattle.rn_reading.specs.declared.fault.ReadFault.TheVariants as Fault
use Rattle.rn_reading.specs.Phrases.{Phrases, Done}
use Rattle.rn_reading.specs.Counting.{Counting, count_after, IsWithin, uncounted}

-- some tokens are such a phrase, whatever follows them
abbrev pub CanEnd : {A : Type 0} → Phrases A → Type 0
CanEnd {A = A} X = (more : List Token) × (a : A) × ((rest : List Token) → X (more ++ rest) a rest)

-- phrases of one sort, one of which there is whatever follows it
pub record Sort (A : Type 0) : Type 1 where
  pub is : Phrases A
  pub ends : CanEnd is

-- nothing more comes
abbrev pub done : {A : Type 0} → A → Sort A
done a = record { is = Done a; ends = ([], a, λ rest. (refl, refl)) }

-- the second list is empty, or goes on with the token that the first goes on with
abbrev pub BeginAlike : List Token → List Token → Type 0
BeginAlike ts [] = Unit {0}
BeginAlike [] (u ∷ us) = ⊥
BeginAlike (t ∷ ts) (u ∷ us) = t ≡ u

-- what may follow a whole phrase: of phrases that are read as long as they go on, what no longer
-- one takes
abbrev pub Following : Type 1
Following = List Token → Type 0

-- anything may follow
abbrev pub Anything : Following
Anything rest = Unit {0}

-- Some tokens of a phrase were taken, and what is left of it is one of these. None of those taken
-- goes too far.
pub record Progress (C : Counting) (F : Following) {A : Type 0} (X : Phrases A)
    (start : List Token) (first : C.Count) (Y : Phrases A) (left : List Token) (now : C.Count) :
    Type 0 where
  pub taken : List Token
  pub whole : start ≡ taken ++ left
  pub on : (ts : List Token) (e : A) (rest : List Token) → Y ts e rest → X (taken ++ ts) e rest
  pub only : (ts : List Token) (e : A) (rest : List Token) → BeginAlike left ts → F rest →
      X (taken ++ ts) e rest → Y ts e rest
  pub within : IsWithin C first taken
  pub count : count_after C first taken ≡ now

-- the same, where what is left is of a sort
abbrev pub Stage : (C : Counting) → Following → {A : Type 0} → Phrases A → List Token → C.Count →
    Sort A → List Token → C.Count → Type 0
Stage C F X start first Y left now = Progress C F X start first Y.is left now

-- the tokens taken begin such a phrase, and with the next they begin none
pub record IsStuck (C : Counting) (F : Following) {A : Type 0} (X : Phrases A)
    (start : List Token) (first : C.Count) (left : List Token) : Type 0 where
  pub taken : List Token
  pub whole : start ≡ taken ++ left
  pub begins : CanEnd (λ ts. X (taken ++ ts))
  pub none : (ts : List Token) (e : A) (rest : List Token) → BeginAlike left ts → F rest →
      X (taken ++ ts) e rest → ⊥
  pub within : IsWithin C first taken

-- the tokens up to and with this one begin such a phrase, and it is the first that goes too far
pub record IsTooFar (C : Counting) {A : Type 0} (X : Phrases A) (start : List Token)
    (first : C.Count) (left : List Token) : Type 0 where
  pub taken : List Token
  pub token : Token
  pub others : List Token
  pub next : left ≡ token ∷ others
  pub whole : start ≡ taken ++ left
  pub begins : CanEnd (λ ts. X (taken ++ token ∷ ts))
  pub within : IsWithin C first taken
  pub far : C.is_too_far (count_after C first taken) token.kind ≡ true

-- how a reading fails among so many tokens
abbrev pub Fails : (C : Counting) → Following → {A : Type 0} → Phrases A → List Token → C.Count →
    ℕ → ReadFault → Type 0
Fails C F X start first total (Fault.Stopped k) =
    (left : List Token) × IsStuck C F X start first left × (k + length left ≡ total)
Fails C F X start first total (Fault.TooFar k) =
    (left : List Token) × IsTooFar C X start first left × (k + length left ≡ total)
Fails C F X start first total (Fault.NoMemory _) = Unit {0}

-- what a reader of a phrase returns, that begins at an index with what was counted so far
abbrev pub Reads : (C : Counting) → Following → {A : Type 0} → Phrases A → List Token → ℕ →
    C.Count → C.Count → Result (A × ℕ) ReadFault → Type 0
Reads C F X tokens at first last (Ok (a, end)) =
    Stage C F X (drop at tokens) first (done a) (drop end tokens) last
Reads C F X tokens at first last (Err e) = Fails C F X (drop at tokens) first (length tokens) e

-- a reader that returns something goes on among the tokens
abbrev pub MovesOn : {A : Type 0} → List Token → ℕ → Result (A × ℕ) ReadFault → Type 0
MovesOn tokens at (Ok (a, end)) = (at ≤ end) × (end ≤ length tokens)
MovesOn tokens at (Err e) = Unit {0}

-- the token at an index, with those after it
abbrev pub IsNext : List Token → ℕ → Token → Type 0
IsNext tokens at t = (drop at tokens ≡ t ∷ drop (at + 1) tokens) × (at < length tokens)

-- no token is at an index
abbrev pub HasNoNext : List Token → ℕ → Type 0
HasNoNext tokens at = drop at tokens ≡ []

-- the token at an index is read as this
abbrev pub IsNextOne : {A : Type 0} → (Token → Option A) → List Token → ℕ → A → Type 0
IsNextOne read tokens at a = (t : Token) × IsNext tokens at t × (read t ≡ Some a)

-- no token is at an index, or one that isn't read so
abbrev pub IsNotNext : {A : Type 0} → (Token → Option A) → List Token → ℕ → Type 0
IsNotNext read tokens at =
    (t : Token) (others : List Token) → drop at tokens ≡ t ∷ others → read t ≡ None

-- what a step past one token returns, which has to be read so
abbrev pub Steps : {A : Type 0} → (Token → Option A) → List Token → ℕ →
    Result (A × ℕ) ReadFault → Type 0
Steps read tokens at (Ok (a, end)) = IsNextOne read tokens at a × (end ≡ at + 1)
Steps read tokens at (Err (Fault.Stopped k)) = IsNotNext read tokens at × (k ≡ at)
Steps read tokens at (Err (Fault.TooFar k)) = ⊥
Steps read tokens at (Err (Fault.NoMemory _)) = Unit {0}

-- the same where nothing is counted, and anything may follow the phrase
abbrev pub ReadsUncounted : {A : Type 0} → Phrases A → List Token → ℕ →
    Result (A × ℕ) ReadFault → Type 0
ReadsUncounted X tokens at result = Reads uncounted Anything X tokens at tt tt result
