-- What a worker of a least run found outside its turns. This only connects the code to the definitions.
use Rattle.std.specs.Prelude.{ℕ, ◌≡◌, List, [], Option, Some, None, Result, Ok, Err, ⊤}
use Rattle.rn_items.specs.declared.memory.NoMemory.{NoMemory}
use Rattle.rn_model.specs.declared.binding.Binding.{Binding}
use Rattle.rn_model.specs.declared.log.Entry.{Entry}
use Rattle.rn_model.specs.declared.system.System.{System}
use Rattle.rn_model.specs.Enabling.{DeadAt}
use Rattle.rn_model.specs.Markings.{Marking}
use Rattle.rn_table.specs.Tables.{Kept}
use Rattle.rn_binding.specs.Soundness.{IsSound}
use Rattle.rn_least.specs.LeastRuns.{IsLeast}
use Rattle.rn_fire.specs.declared.setup.Setup.{Setup}
use Rattle.rn_fire.specs.Ends.{WasDead}
use Rattle.rn_fire.specs.States.{State}
use Rattle.rn_worker.specs.link.Plans.{AreDeadAt, HasNoneLive}
use Rattle.rn_worker.specs.link.Seen.{marking_after}
use Rattle.rn_least_state.specs.CommitsAt.{WasLeast}
use Rattle.rn_least_workers.specs.declared.considering.LeastPlan.{LeastPlan}

-- the first binding that is enabled, or none where none is
abbrev pub IsLeastAt : System → ℕ → Marking → Option Binding → Type 0
IsLeastAt system depth m (Some b) = IsLeast system m depth b
IsLeastAt system depth m None = DeadAt system m depth

-- what is found at a table
abbrev pub IsPlanAt : System → ℕ → Kept → LeastPlan → Type 0
IsPlanAt system depth table p =
    IsLeastAt system depth table.marking p.found × AreDeadAt system table.marking p.dead.items

-- what is so after the entries that were seen
abbrev pub Knows : Setup → List Entry → LeastPlan → Type 0
Knows setup entries p =
    IsLeastAt setup.system setup.options.depth (marking_after setup entries) p.found
    × AreDeadAt setup.system (marking_after setup entries) p.dead.items

-- no instances are to be dropped
abbrev pub DropsNone : Result LeastPlan NoMemory → Type 0
DropsNone (Ok p) = p.dead.items ≡ []
DropsNone (Err refused) = ⊤

-- what a commit asks of what was found
abbrev pub WasFound : State → ℕ → Option Binding → Type 0
WasFound s seen (Some b) =
    IsSound s.setup.system s.setup.options.depth b × WasLeast s b seen
WasFound s seen None = WasDead s seen

-- what was found after so many entries fits a state
abbrev pub FitsIn : State → ℕ → LeastPlan → Type 0
FitsIn s seen p = WasFound s seen p.found × HasNoneLive s p.dead.items
