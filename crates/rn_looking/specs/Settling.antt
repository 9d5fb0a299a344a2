-- How many of the first decisions are settled.
use Rattle.std.specs.Prelude.{ℕ, ◌≤◌, List, length}
use Rattle.rn_model.specs.declared.system.System.{System}
use Rattle.rn_growing.specs.declared.decision.Decision.{Decision}
use Rattle.rn_search.specs.Sought.{Sought}
use Rattle.rn_looking.specs.declared.look.Look.{Look}
use Rattle.rn_looking.specs.Looks.{AreAllDecided, Looked}
use Rattle.rn_looking.specs.Things.{IsOfEntries}

-- The first so many decisions are settled: all that is asked of their nodes is decided.
pub record AreSettled (system : System) (ds : List Decision) (n : ℕ) : Type 0 where
  pub within : n ≤ length ds
  pub decided : AreAllDecided system ds (IsOfEntries ds n)

-- what a look at all that is asked says, and how many of the first decisions it saw settled
abbrev pub LookedOn : Sought → List Decision → Look → ℕ → Type 0
LookedOn sought ds look n =
    Looked sought ds (IsOfEntries ds (length ds)) look × AreSettled sought.system ds n
