-- Laws over live instances, sound tokens and kept tables. Each is the contract of a function that
-- does nothing.
use Rattle.std.specs.Prelude.{ℕ, ◌≡◌, ◌⊎◌, ◌↔◌, Bool, true, false, not, List, ◌++◌, Result, Ok, Err}
use Rattle.std.specs.Prelude.{IsTrue, Contains, filter}
use Rattle.rn_value.specs.declared.value.InstRef.TheVariants.{Old}
use Rattle.rn_value.specs.declared.value.Value.{Value}
use Rattle.rn_model.specs.declared.system.System.{System}
use Rattle.rn_model.specs.declared.binding.Node.{Node}
use Rattle.rn_model.specs.declared.binding.Binding.{Binding}
use Rattle.rn_model.specs.declared.log.FaultKind.{FaultKind}
use Rattle.rn_model.specs.Good.{Good}
use Rattle.rn_model.specs.Markings.{Marking, IsMarking, IsThere}
use Rattle.rn_model.specs.Liveness.{IsLive, Stands, mentions}
use Rattle.rn_model.specs.SoundTokens.{HasSoundTokens, holds_new}
use Rattle.rn_model.specs.Enabling.{Enabled}
use Rattle.rn_model.specs.Firing.{Fired, fire, named}
use Rattle.rn_model.specs.Runs.{Firing, Run, end_of}

-- the node stands on an existing instance, or one of its values mentions it
abbrev pub NamesInstance : Node → ℕ → Type 0
NamesInstance node n =
    (node.inst ≡ Old n) ⊎ ((v : Value) × Contains node.values v × IsTrue (mentions v n))

-- where a binding is enabled, each existing instance that its nodes stand on or that their values
-- mention is live
abbrev pub EnabledNameLive : Type 0
EnabledNameLive = (system : System) (m : Marking) (b : Binding) (depth : ℕ) → Good system →
    HasSoundTokens system m → Enabled system m b depth →
    (node : Node) (n : ℕ) → Contains b.nodes node → NamesInstance node n → IsLive system m n

-- an instance that is there and isn't live isn't live after any firing of an enabled binding
abbrev pub DeadStayDead : Type 0
DeadStayDead = (system : System) (m : Marking) (b : Binding) (depth step : ℕ) (f : Fired) →
    Good system → IsMarking system m → HasSoundTokens system m → Enabled system m b depth →
    fire system m b step ≡ Ok f →
    (n : ℕ) → IsThere m n → ¬ IsLive system m n → ¬ IsLive system f.marking n

-- and so it isn't live at any later end of the run
abbrev pub DeadStayDeadInRuns : Type 0
DeadStayDeadInRuns = (system : System) (depth : ℕ) (fs gs : List Firing) → Good system →
    Run system depth (fs ++ gs) →
    (n : ℕ) → IsThere (end_of system fs) n → ¬ IsLive system (end_of system fs) n →
    ¬ IsLive system (end_of system (fs ++ gs)) n

-- where a table stands for a marking, the same bindings are enabled at both
abbrev pub TablesEnableTheSame : Type 0
TablesEnableTheSame = (system : System) (table m : Marking) (b : Binding) (depth : ℕ) →
    HasSoundTokens system m → Stands system table m →
    Enabled system table b depth ↔ Enabled system m b depth

-- two firings are both defined and print the same, or are undefined by the same cause
abbrev pub FireAlike : Result Fired FaultKind → Result Fired FaultKind → Type 0
FireAlike (Ok f) (Ok g) = f.outs ≡ g.outs
FireAlike (Err cause) (Err other) = cause ≡ other
FireAlike _ _ = ⊥

-- a firing made at a table that stands for a marking is as at the marking
abbrev pub TablesFireAlike : Type 0
TablesFireAlike = (system : System) (table m : Marking) (b : Binding) (step : ℕ) →
    Stands system table m → FireAlike (fire system table b step) (fire system m b step)

-- after the firing of an enabled binding, made in both, the table stands for the marking again
abbrev pub TablesStandAfter : Type 0
TablesStandAfter = (system : System) (table m : Marking) (b : Binding) (depth step : ℕ)
    (f g : Fired) →
    Good system → IsMarking system m → HasSoundTokens system m → Stands system table m →
    Enabled system m b depth → fire system table b step ≡ Ok f → fire system m b step ≡ Ok g →
    Stands system f.marking g.marking

-- a marking stands for itself
abbrev pub MarkingsStandForThemselves : Type 0
MarkingsStandForThemselves = (system : System) (m : Marking) → IsMarking system m →
    Stands system m m

-- a table that stands for one that stands for a marking stands for the marking
abbrev pub StandingIsTransitive : Type 0
StandingIsTransitive = (system : System) (small table m : Marking) → Stands system small table →
    Stands system table m → Stands system small m

-- the marking without the instances of these numbers
abbrev pub without_instances : (ℕ → Bool) → Marking → Marking
without_instances drops m =
    record m { instances = filter (λ i. not (drops i.number)) m.instances }

-- a table that stands still does without instances that aren't live in it
abbrev pub DroppingKeeps : Type 0
DroppingKeeps = (system : System) (table m : Marking) (drops : ℕ → Bool) →
    Stands system table m → ((n : ℕ) → drops n ≡ true → ¬ IsLive system table n) →
    Stands system (without_instances drops table) m

-- an instance that is live in the marking is live in each table that stands for it, and no other
abbrev pub TablesHaveTheSameLive : Type 0
TablesHaveTheSameLive = (system : System) (table m : Marking) → Stands system table m →
    (n : ℕ) → IsLive system table n ↔ IsLive system m n

-- the firing of an enabled binding keeps tokens sound
abbrev pub FiringsKeepTokensSound : Type 0
FiringsKeepTokensSound = (system : System) (m : Marking) (b : Binding) (depth step : ℕ)
    (f : Fired) →
    Good system → IsMarking system m → HasSoundTokens system m → Enabled system m b depth →
    fire system m b step ≡ Ok f → HasSoundTokens system f.marking

-- and so the tokens at the end of each run of a good system are sound
abbrev pub RunsEndSound : Type 0
RunsEndSound = (system : System) (depth : ℕ) (fs : List Firing) → Good system →
    Run system depth fs → HasSoundTokens system (end_of system fs)

-- a value holds no new instance, and each that it mentions is there
pub record NamesWhatIsThere (m : Marking) (v : Value) : Type 0 where
  pub old : holds_new v ≡ false
  pub there : (n : ℕ) → IsTrue (mentions v n) → IsThere m n

-- What a firing reports: under the numbers of the new instances, the nodes of its binding stand on
-- instances that are there after it, and their values and those that are printed name such ones
-- alone.
pub record ReportsWhatIsThere (system : System) (m : Marking) (b : Binding) (f : Fired)
    : Type 0 where
  pub insts : (node : Node) → Contains (named system b m.next).nodes node →
      (n : ℕ) × (node.inst ≡ Old n) × IsThere f.marking n
  pub values : (node : Node) (v : Value) → Contains (named system b m.next).nodes node →
      Contains node.values v → NamesWhatIsThere f.marking v
  pub outs : (v : Value) → Contains f.outs v → NamesWhatIsThere f.marking v

-- the firing of an enabled binding reports only instances that are there after it
abbrev pub FiringsReportWhatIsThere : Type 0
FiringsReportWhatIsThere = (system : System) (m : Marking) (b : Binding) (depth step : ℕ)
    (f : Fired) →
    Good system → IsMarking system m → HasSoundTokens system m → Enabled system m b depth →
    fire system m b step ≡ Ok f → ReportsWhatIsThere system m b f
