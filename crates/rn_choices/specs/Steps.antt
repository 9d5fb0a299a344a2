-- What one step of the search does.
use Rattle.std.specs.Prelude.{ℕ, ◌≡◌, ◌<◌, ◌↔◌, List, true}
use Rattle.rn_choices.specs.declared.choice.Choice.{Choice}
use Rattle.rn_choices.specs.declared.step.Step.{Step}
use Rattle.rn_choices.specs.declared.step.Step.TheVariants.{Found, Moved, Over}
use Rattle.rn_choices.specs.Waiting.{IsLeft, Stand, load}

-- What a step does that is taken at decisions that are live. A solution that is found is the only
-- one that begins with the decisions, and nothing moves. A move neither drops nor adds a solution.
abbrev pub Goes : {D T S : Type 0} → (List D → S → Type 0) → (List D → T → ℕ → D) → (List D → T →
    ℕ → Type 0) →
    List D → List (Choice T) → Step S → List D → List (Choice T) → Type 0
Goes {D} {T} {S} leads offers allows ds cs (Found found) ds' cs' =
    (ds' ≡ ds) × (cs' ≡ cs) × leads ds found × ((s : S) → leads ds s → s ≡ found)
Goes {D} {T} {S} leads offers allows ds cs Moved ds' cs' =
    Stand offers allows ds' cs' × ((s : S) → IsLeft leads offers true ds cs s
    ↔ IsLeft leads offers true ds' cs' s)
Goes {D} {T} {S} leads offers allows ds cs Over ds' cs' = (s : S) →
    IsLeft leads offers true ds cs s → ⊥

-- after a move there is less to be tried
abbrev pub Shrinks : {D T S : Type 0} → (List D → ℕ) → List D → List (Choice T) → Step S →
    List D → List (Choice T) → Type 0
Shrinks room ds cs (Found found) ds' cs' = Unit {0}
Shrinks room ds cs Moved ds' cs' = load room ds' cs' < load room ds cs
Shrinks room ds cs Over ds' cs' = Unit {0}
