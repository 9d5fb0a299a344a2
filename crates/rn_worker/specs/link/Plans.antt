-- What a worker found outside its turns, and what it adds in one.
use Rattle.std.specs.Prelude.{ℕ, ◌≡◌, ◌<◌, ◌^◌, ◌+◌, Bool, true, false, List, [], ◌∷◌, ◌++◌, Option, Some, None}
use Rattle.std.specs.Prelude.{Result, Ok, Err, Contains, length, ⊤}
use Rattle.rn_choices.specs.declared.flag.Halt.{Halt}
use Rattle.rn_choices.specs.declared.flag.Halt.TheVariants.{Stopped}
use Rattle.rn_model.specs.declared.binding.Binding.{Binding}
use Rattle.rn_model.specs.declared.log.Entry.{Entry}
use Rattle.rn_model.specs.declared.system.System.{System}
use Rattle.rn_model.specs.Enabling.{DeadAt, Enabled}
use Rattle.rn_model.specs.Good.{Good}
use Rattle.rn_model.specs.Liveness.{IsLive}
use Rattle.rn_model.specs.Markings.{Instance, IsThere, Marking, instance_at}
use Rattle.rn_model.specs.Runs.{Firing}
use Rattle.rn_channel.specs.declared.uplinks.Uplinks.{Uplinks}
use Rattle.rn_channel.specs.link.Uplinks.{AreUplinksOf}
use Rattle.rn_table.specs.Tables.{Kept, IsTableOf}
use Rattle.rn_search.specs.Problems.{HasFitTokens}
use Rattle.rn_binding.specs.Soundness.{IsSound}
use Rattle.rn_fire.specs.declared.setup.Setup.{Setup}
use Rattle.rn_fire.specs.Commits.{WasEnabled}
use Rattle.rn_fire.specs.Ends.{WasDead}
use Rattle.rn_fire.specs.States.{State, end_marking}
use Rattle.rn_worker.specs.declared.considering.Plan.{Plan}
use Rattle.rn_worker.specs.link.Seen.{StaysOrEnds, marking_after}

-- a table that may be searched, and whose instances may be listed
pub record IsToSearch (system : System) (uplinks : Uplinks) (table : Kept) : Type 0 where
  pub good : Good system
  pub own : AreUplinksOf system uplinks
  pub of_system : IsTableOf system table
  pub tokens : HasFitTokens system table.marking
  pub few : (n : ℕ) (i : Instance) → instance_at table.marking n ≡ Some i →
      length i.places < 2 ^ 32

-- a binding that is enabled, or none where none is
abbrev pub IsFoundAt : System → ℕ → Marking → Option Binding → Type 0
IsFoundAt system depth m (Some b) = Enabled system m b depth
IsFoundAt system depth m None = DeadAt system m depth

-- instances that are there and aren't live
abbrev pub AreDeadAt : System → Marking → List ℕ → Type 0
AreDeadAt system m numbers =
    (n : ℕ) → Contains numbers n → IsThere m n × ¬ IsLive system m n

-- what is found at a table
abbrev pub IsPlanAt : System → ℕ → Kept → Plan → Type 0
IsPlanAt system depth table p =
    IsFoundAt system depth table.marking p.found × AreDeadAt system table.marking p.dead.items

-- what is so after the entries that were seen
abbrev pub Knows : Setup → List Entry → Plan → Type 0
Knows setup entries p =
    IsFoundAt setup.system setup.options.depth (marking_after setup entries) p.found
    × AreDeadAt setup.system (marking_after setup entries) p.dead.items

-- the search was stopped
abbrev pub WasStopped : {A : Type 0} → Result A Halt → Type 0
WasStopped r = r ≡ Err Stopped

-- no instances are to be dropped
abbrev pub DropsNone : Result Plan Halt → Type 0
DropsNone (Ok p) = p.dead.items ≡ []
DropsNone (Err halt) = ⊤

-- none of these is live at the end of the log
abbrev pub HasNoneLive : State → List ℕ → Type 0
HasNoneLive s numbers = (n : ℕ) → Contains numbers n → ¬ IsLive s.setup.system (end_marking s) n

-- what a commit asks of what was found
abbrev pub WasFound : State → ℕ → Option Binding → Type 0
WasFound s seen (Some b) = IsSound s.setup.system s.setup.options.depth b × WasEnabled s b seen
WasFound s seen None = WasDead s seen

-- what was found after so many entries fits a state
abbrev pub FitsIn : State → ℕ → Plan → Type 0
FitsIn s seen p = WasFound s seen p.found × HasNoneLive s p.dead.items

-- one firing more by this worker
abbrev pub AddsFiring : ℕ → State → State → Type 0
AddsFiring worker old new = (new.setup ≡ old.setup) × (new.ended ≡ old.ended) × (old.ended ≡ None)
    × ((f : Firing) × (f.worker ≡ worker) × (new.fired ≡ old.fired ++ f ∷ []))

-- one firing more by this worker, or no firing more
abbrev pub AddsOwn : ℕ → Bool → State → State → Type 0
AddsOwn worker true old new = AddsFiring worker old new
AddsOwn worker false old new = StaysOrEnds old new

-- one entry of its own more, or none
abbrev pub GrowsBy : Bool → List Entry → List Entry → Type 0
GrowsBy true old new = length new ≡ length old + 1
GrowsBy false old new = new ≡ old
