-- What a search has still to find, and how much it may still try.
use Rattle.std.specs.Prelude.{ℕ, ◌+◌, ◌-◌, ◌*◌, ◌^◌, ◌≡◌, ◌<◌, ◌≤◌, ◌⊎◌, List, [], ◌∷◌, ◌++◌}
use Rattle.std.specs.Prelude.{length, take, Bool, IsTrue, Option, Some, None}
use Rattle.rn_choices.specs.declared.choice.Choice.{Choice}
use Rattle.rn_choices.specs.Turns.{turned}

-- Choices stand newest first, beside the decisions ds; each choice was met after the first
-- `mark` of them. `leads` and `offers` are as for decisions.

-- the decision by the alternative that a choice tries at a turn, after those before the choice
abbrev pub at_turn : {D T : Type 0} → (List D → T → ℕ → D) → List D → Choice T → ℕ → D
at_turn offers before c turn = offers before c.site (turned c.first c.of turn)

-- The solution goes on, after the decisions before the choice, with an alternative of the choice
-- that wasn't tried.
abbrev pub WaitsAt : {D T S : Type 0} → (List D → S → Type 0) → (List D → T → ℕ → D) → List D →
    Choice T → S → Type 0
WaitsAt leads offers before c s =
    (turn : ℕ) × (c.tried ≤ turn) × (turn < c.of)
    × leads (before ++ at_turn offers before c turn ∷ []) s

-- it waits at one of the choices
abbrev pub Waits : {D T S : Type 0} → (List D → S → Type 0) → (List D → T → ℕ → D) → List D →
    List (Choice T) → S → Type 0
Waits leads offers ds [] s = ⊥
Waits leads offers ds (c ∷ cs) s =
    WaitsAt leads offers (take c.mark ds) c s ⊎ Waits leads offers (take c.mark ds) cs s

-- What the search has still to find: the solutions that begin with the decisions, where these are
-- live, and those that wait.
abbrev pub IsLeft : {D T S : Type 0} → (List D → S → Type 0) → (List D → T → ℕ → D) → Bool →
    List D → List (Choice T) → S → Type 0
IsLeft leads offers live ds cs s = (IsTrue live × leads ds s) ⊎ Waits leads offers ds cs s

-- the choice was met after decisions that stand, its alternatives may be tried there, and it is
-- gone through at most
abbrev pub WasMet : {D T : Type 0} → (List D → T → ℕ → Type 0) → List D → Choice T → Type 0
WasMet allows ds c =
    (c.mark ≤ length ds) × (c.first ≤ c.of) × (c.tried ≤ c.of)
    × ((a : ℕ) → a < c.of → allows (take c.mark ds) c.site a)

-- the decision after those before the choice is an alternative that was tried
abbrev pub WentOn : {D T : Type 0} → (List D → T → ℕ → D) → List D → Choice T → Type 0
WentOn {D} {T} offers ds c =
    (turn : ℕ) × (turn < c.tried)
    × ((rest : List D) × (ds ≡ take c.mark ds ++ at_turn offers (take c.mark ds) c turn ∷ rest))

-- the decisions go on from each choice
abbrev pub Stand : {D T : Type 0} → (List D → T → ℕ → D) → (List D → T → ℕ → Type 0) → List D →
    List (Choice T) → Type 0
Stand offers allows ds [] = Unit {0}
Stand offers allows ds (c ∷ cs) = WasMet allows ds c × WentOn offers ds c
    × Stand offers allows (take c.mark ds) cs

-- the same, but maybe not from the newest
abbrev pub StandBelow : {D T : Type 0} → (List D → T → ℕ → D) → (List D → T → ℕ → Type 0) →
    List D → List (Choice T) → Type 0
StandBelow offers allows ds [] = Unit {0}
StandBelow offers allows ds (c ∷ cs) = WasMet allows ds c × Stand offers allows (take c.mark ds) cs

-- From the decisions before a choice it came to those after it: by the alternative of that turn,
-- or, where none was made, back to those before it.
abbrev pub Made : {D T : Type 0} → (List D → T → ℕ → D) → List D → Choice T → Option ℕ → List D →
    Type 0
Made offers before c None after = after ≡ before
Made offers before c (Some turn) after =
    (c.tried ≤ turn) × (turn < c.of) × (after ≡ before ++ at_turn offers before c turn ∷ [])

-- More than fewer than 2^64 alternatives, each of which is followed by less than room n. So what
-- may still be tried is a number with a digit for each choice.
unfoldable pub bulk : ℕ → ℕ
bulk n = (2 ^ 64) ^ n

-- what may still be tried at the choices
abbrev pub weight : {D T : Type 0} → (List D → ℕ) → List D → List (Choice T) → ℕ
weight room ds [] = 0
weight room ds (c ∷ cs) = (c.of - c.tried) * bulk (room (take c.mark ds)) + weight room
    (take c.mark ds) cs

-- the same with what may be tried after decisions that are live
abbrev pub load : {D T : Type 0} → (List D → ℕ) → List D → List (Choice T) → ℕ
load room ds cs = bulk (room ds + 1) + weight room ds cs
