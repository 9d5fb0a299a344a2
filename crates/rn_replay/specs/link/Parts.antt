-- What the parts of a replay answer. It connects the code with the definitions, and states no rule.
use Rattle.std.specs.Prelude.{ℕ, ◌≡◌, ◌<◌, ◌≤◌, ◌-◌, Bool, true, false, List, [], ◌∷◌, ◌++◌, Option, Some, None, Result, Ok, Err, length, slice_get, ⊤}
use Rattle.rn_items.specs.declared.memory.NoMemory.{NoMemory as Refusal}
use Rattle.rn_value.specs.declared.value.Value.{Value}
use Rattle.rn_model.specs.declared.system.System.{System}
use Rattle.rn_model.specs.declared.binding.Binding.{Binding}
use Rattle.rn_model.specs.declared.log.Options.{Options}
use Rattle.rn_model.specs.declared.log.Told.{Told}
use Rattle.rn_model.specs.declared.log.Entry.{Entry}
use Rattle.rn_model.specs.declared.log.Entry.TheVariants.{Fire, End}
use Rattle.rn_model.specs.declared.log.FaultKind.{FaultKind}
use Rattle.rn_model.specs.declared.log.Reason.{Reason}
use Rattle.rn_model.specs.declared.log.Reason.TheVariants.{Dead, Fault}
use Rattle.rn_model.specs.Enabling.{Fits}
use Rattle.rn_model.specs.Limits.{most_workers}
use Rattle.rn_model.specs.Liveness.{LivePart}
use Rattle.rn_model.specs.Runs.{Firing, IsTrueEnd, Log}
use Rattle.rn_binding.specs.Soundness.{IsSound}
use Rattle.rn_binding.specs.declared.candidate.NotSound.{NotSound}
use Rattle.rn_binding.specs.declared.candidate.NotSound.TheVariants as Lacks
use Rattle.rn_fire.specs.Commits.{HasFired, IsEnabledNow, next_firing}
use Rattle.rn_fire.specs.Ends.{with_end}
use Rattle.rn_fire.specs.States.{State, end_marking}
use Rattle.rn_fire.specs.link.States.{firings_in}
use Rattle.rn_replay.specs.Replays.{FiringRefused, Reaches}
use Rattle.rn_replay.specs.declared.begun.BegunReplay.{BegunReplay}
use Rattle.rn_replay.specs.declared.begun.BegunReplay.TheVariants as Begin
use Rattle.rn_replay.specs.declared.ending.EndTried.{EndTried}
use Rattle.rn_replay.specs.declared.ending.EndTried.TheVariants.{Ended, Untrue, Unsearched}
use Rattle.rn_replay.specs.declared.fault.ReplayFault.{ReplayFault}
use Rattle.rn_replay.specs.declared.fault.ReplayFault.TheVariants as R
use Rattle.rn_replay.specs.declared.firing.Unfit.{Unfit}
use Rattle.rn_replay.specs.declared.firing.Unfit.TheVariants.{Unsound, Unmet, NoMemory}

-- why a binding that isn't sound isn't enabled
abbrev pub unfit_of : NotSound → Unfit
unfit_of (Lacks.NoMemory refused) = NoMemory refused
unfit_of _ = Unsound

-- a binding as a candidate, or that it isn't sound
abbrev pub Certified : System → ℕ → Binding → Result Binding Unfit → Type 0
Certified system depth b (Ok c) = (c ≡ b) × IsSound system depth b
Certified system depth b (Err Unsound) = ¬ IsSound system depth b
Certified system depth b (Err Unmet) = ⊥
Certified system depth b (Err (NoMemory _)) = ⊤

-- the fault of a firing with this number whose binding isn't enabled
abbrev pub fault_of : Unfit → ℕ → ReplayFault
fault_of Unsound number = R.V1 number
fault_of Unmet number = R.V2 number
fault_of (NoMemory refused) number = R.NoMemory refused

-- a binding as a candidate, or why it isn't enabled
abbrev pub Candidates : State → Binding → Result Binding Unfit → Type 0
Candidates s b (Ok c) = (c ≡ b) × IsEnabledNow s b
Candidates s b (Err Unsound) = ¬ IsSound s.setup.system s.setup.options.depth b
Candidates s b (Err Unmet) =
    IsSound s.setup.system s.setup.options.depth b × ¬ Fits s.setup.system (end_marking s) b
Candidates s b (Err (NoMemory _)) = ⊤

-- an enabled binding is fired, or ends the log with its fault
abbrev pub FiresNow : State → ℕ → Binding → Result Bool Refusal → State → Type 0
FiresNow old worker b (Ok true) new =
    (outs : List Value) × HasFired old (record { worker = worker; binding = b; outs = outs }) new
FiresNow old worker b (Ok false) new =
    (cause : FaultKind) × (next_firing old b ≡ Err cause) × (new ≡ with_end (Fault cause b) old)
FiresNow old worker b (Err refused) new = ⊤

-- a firing is done again, or refused
abbrev pub Redoes : State → Firing → Result Unit ReplayFault → State → Type 0
Redoes old f (Ok _) new =
    (new.setup ≡ old.setup) × (new.ended ≡ None) × (new.fired ≡ old.fired ++ f ∷ [])
Redoes old f (Err fault) new =
    FiringRefused old.setup.system old.setup.options old.fired f fault
    × Log old.setup.system old.setup.options old.fired None

-- an entry is done again, if it is a firing
abbrev pub RedoesEntry : State → Entry → Result Unit ReplayFault → State → Type 0
RedoesEntry old (Fire worker b outs) result new =
    Redoes old (record { worker = worker; binding = b; outs = outs }) result new
RedoesEntry old (End reason) (Ok _) new = new ≡ old
RedoesEntry old (End reason) (Err fault) new = ⊥

-- the worker of an entry has a number, if it is a firing
abbrev pub HasItsWorker : Entry → Type 0
HasItsWorker (Fire worker b outs) = (1 ≤ worker) × (worker ≤ most_workers)
HasItsWorker (End reason) = ⊤

-- what the last of entries printed, if it is a firing
abbrev pub outs_of : Option Entry → Option (List Value)
outs_of (Some (Fire worker b outs)) = Some outs
outs_of _ = None

-- the cause of an end, if it is a fault
abbrev pub fault_cause : Reason → Option FaultKind
fault_cause (Fault cause b) = Some cause
fault_cause _ = None

-- the cause of the last of entries, if it is a fault
abbrev pub cause_of : Option Entry → Option FaultKind
cause_of (Some (End reason)) = fault_cause reason
cause_of _ = None

abbrev pub last_of : List Entry → Option Entry
last_of entries = slice_get entries (length entries - 1)

-- A log gets an end that is true; or the end isn't true; or a search is needed for it.
abbrev pub TriesEnd : State → Reason → Result EndTried Refusal → State → Type 0
TriesEnd old reason (Ok Ended) new =
    IsTrueEnd old.setup.system old.setup.options old.fired reason × (new ≡ with_end reason old)
TriesEnd old reason (Ok Untrue) new =
    ¬ IsTrueEnd old.setup.system old.setup.options old.fired reason
TriesEnd old reason (Ok Unsearched) new =
    (reason ≡ Dead) × (length old.fired < old.setup.options.steps) × (new ≡ old)
TriesEnd old reason (Err refused) new = ⊤

-- what comes of a fault whose binding isn't enabled
abbrev pub IsUntrueBy : Unfit → Result EndTried Refusal → Type 0
IsUntrueBy (NoMemory _) (Ok tried) = ⊥
IsUntrueBy (NoMemory _) (Err refused) = ⊤
IsUntrueBy unfit (Ok tried) = tried ≡ Untrue
IsUntrueBy unfit (Err refused) = ⊥

-- an entry is an end
abbrev pub IsEnd : Entry → Type 0
IsEnd (End reason) = ⊤
IsEnd (Fire worker b outs) = ⊥

-- all firings among entries are done, or the first that isn't one of a run is refused
abbrev pub RedoesAll : System → Options → List Entry → Result State ReplayFault → Type 0
RedoesAll system options entries (Ok s) =
    (s.setup ≡ record { system = system; options = options }) × (s.ended ≡ None)
    × (s.fired ≡ firings_in entries)
RedoesAll system options entries (Err (R.NoMemory _)) = ⊤
RedoesAll system options entries (Err fault) =
    (before : List Firing) × (f : Firing) × FiringRefused system options before f fault
    × Reaches system options entries before (Fire f.worker f.binding f.outs)

-- the marks that are told are those of a state, or are refused
abbrev pub HasMarks : State → ℕ → Told → Result State ReplayFault → Type 0
HasMarks s number told (Ok t) =
    (t ≡ s) × LivePart s.setup.system (end_marking s) told.marks
HasMarks s number told (Err (R.V5 n)) =
    (n ≡ number) × ¬ LivePart s.setup.system (end_marking s) told.marks
HasMarks s number told (Err (R.NoMemory _)) = ⊤
HasMarks s number told (Err _) = ⊥

-- the same of a replay that is done
abbrev pub IsDoneWith : State → ℕ → Told → Result BegunReplay ReplayFault → Type 0
IsDoneWith s number told (Ok (Begin.Done t)) = HasMarks s number told (Ok t)
IsDoneWith s number told (Ok (Begin.Dead t)) = ⊥
IsDoneWith s number told (Err fault) = HasMarks s number told (Err fault)
