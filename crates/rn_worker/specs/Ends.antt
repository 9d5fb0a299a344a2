-- The state at the end of all workers, and their tallies.
use Rattle.std.specs.Prelude.{ℕ, ◌≡◌, ◌≤◌, ◌==◌, List, All, filter, length}
use Rattle.rn_model.specs.Runs.{Firing}
use Rattle.rn_model.specs.Liveness.{IsLive}
use Rattle.rn_model.specs.Markings.{IsThere}
use Rattle.rn_fire.specs.States.{State, end_marking}
use Rattle.rn_worker.specs.declared.tally.Tally.{Tally}

-- each firing is that of a worker with a number from 1 to this one
abbrev pub AreOfWorkers : ℕ → List Firing → Type 0
AreOfWorkers workers = All (λ f. (1 ≤ f.worker) × (f.worker ≤ workers))

-- how many firings have this worker's number
abbrev pub fired_by : ℕ → List Firing → ℕ
fired_by n fs = length (filter (λ f. f.worker == n) fs)

-- The tally is of this worker, and counts the firings with its number; where none is dropped during
-- the run it says so.
abbrev pub IsTallyOf : List Firing → ℕ → ℕ → Tally → Type 0
IsTallyOf fs sweep_every n t = (t.worker ≡ n) × (t.fired ≡ fired_by n fs)
    × (sweep_every ≡ 0 → t.swept ≡ 0)

-- just the instances that are live at the end are kept
abbrev pub KeepsJustLive : State → Type 0
KeepsJustLive s = (n : ℕ) → IsThere s.table.marking n →
    IsLive s.setup.system (end_marking s) n
