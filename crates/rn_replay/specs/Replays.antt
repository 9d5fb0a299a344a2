-- What a replay answers: the state at the end of what is told, or the first entry that isn't true.
use Rattle.std.specs.Prelude.{suc, ◌≡◌, ◌<◌, ◌≤◌, List, ◌∷◌, ◌++◌, Some, None, Result, Ok, Err, length, All, ⊤}
use Rattle.rn_model.specs.declared.system.System.{System}
use Rattle.rn_model.specs.declared.log.Options.{Options}
use Rattle.rn_model.specs.declared.log.Entry.{Entry}
use Rattle.rn_model.specs.declared.log.Entry.TheVariants.{Fire, End}
use Rattle.rn_model.specs.declared.log.MarkLine.{MarkLine}
use Rattle.rn_model.specs.declared.log.Reason.{Reason}
use Rattle.rn_model.specs.declared.log.Reason.TheVariants.{Dead}
use Rattle.rn_model.specs.declared.log.Told.{Told}
use Rattle.rn_model.specs.Enabling.{Enabled, Fits}
use Rattle.rn_model.specs.Firing.{Fired, fire}
use Rattle.rn_model.specs.Limits.{most_workers}
use Rattle.rn_model.specs.Liveness.{LivePart}
use Rattle.rn_model.specs.Runs.{Firing, IsTrueEnd, Log, end_of, entries_of}
use Rattle.rn_binding.specs.Soundness.{IsSound}
use Rattle.rn_fire.specs.States.{State, end_marking, logged}
use Rattle.rn_replay.specs.declared.begun.BegunReplay.{BegunReplay}
use Rattle.rn_replay.specs.declared.begun.BegunReplay.TheVariants as Begin
use Rattle.rn_replay.specs.declared.fault.ReplayFault.{ReplayFault}
use Rattle.rn_replay.specs.declared.fault.ReplayFault.TheVariants.{V1, V2, V3, V4, V5, NoMemory}

-- a worker has a number
abbrev pub HasWorker : Firing → Type 0
HasWorker f = (1 ≤ f.worker) × (f.worker ≤ most_workers)

-- Entries have an end, as the last of them alone, and their workers are 1 to 64.
pub record IsWhole (entries : List Entry) : Type 0 where
  pub fired : List Firing
  pub reason : Reason
  pub are : entries ≡ entries_of fired (Some reason)
  pub workers : All HasWorker fired

-- Of these entries, those before this one are firings, and are a run within the step limit.
pub record Reaches (system : System) (options : Options) (entries : List Entry)
    (before : List Firing) (entry : Entry) : Type 0 where
  pub after : List Entry
  pub are : entries ≡ entries_of before None ++ entry ∷ after
  pub log : Log system options before None

-- the firing of its binding is defined after these, and prints what it says
abbrev pub FiresAsSaid : System → List Firing → Firing → Type 0
FiresAsSaid system before f =
    (fired : Fired)
    × (fire system (end_of system before) f.binding (suc (length before)) ≡ Ok fired)
    × (f.outs ≡ fired.outs)

-- Why a firing after these isn't one of a run, by its number. First it may stand past the step
-- limit. Then its binding may not be sound, then the marking may not meet it, and then its firing
-- may be undefined or print other values.
abbrev pub FiringRefused : System → Options → List Firing → Firing → ReplayFault → Type 0
FiringRefused system options before f (V4 n) =
    (n ≡ suc (length before)) × (options.steps ≤ length before)
FiringRefused system options before f (V1 n) =
    (n ≡ suc (length before)) × (length before < options.steps)
    × ¬ IsSound system options.depth f.binding
FiringRefused system options before f (V2 n) =
    (n ≡ suc (length before)) × (length before < options.steps)
    × IsSound system options.depth f.binding × ¬ Fits system (end_of system before) f.binding
FiringRefused system options before f (V3 n) =
    (n ≡ suc (length before)) × (length before < options.steps)
    × Enabled system (end_of system before) f.binding options.depth × ¬ FiresAsSaid system before f
FiringRefused system options before f (V5 n) = ⊥
FiringRefused system options before f (NoMemory _) = ⊤

-- Why the end of these firings is refused, with the marks after it: it isn't true, or else the marks
-- aren't those of the live part.
abbrev pub EndRefused : System → Options → List Firing → Reason → List MarkLine → ReplayFault →
    Type 0
EndRefused system options fired reason marks (V4 n) =
    (n ≡ suc (length fired)) × ¬ IsTrueEnd system options fired reason
EndRefused system options fired reason marks (V5 n) =
    (n ≡ suc (length fired)) × IsTrueEnd system options fired reason
    × ¬ LivePart system (end_of system fired) marks
EndRefused system options fired reason marks (NoMemory _) = ⊤
EndRefused system options fired reason marks _ = ⊥

-- Why what is told is refused: its first entry that isn't true is a firing, or is the end.
pub data Refused (system : System) (options : Options) (told : Told) (fault : ReplayFault)
    : Type 0 where
  firing : {before : List Firing} {f : Firing} →
      Reaches system options told.entries before (Fire f.worker f.binding f.outs) →
      FiringRefused system options before f fault → Refused system options told fault
  ending : {fired : List Firing} {reason : Reason} →
      Reaches system options told.entries fired (End reason) →
      EndRefused system options fired reason told.marks fault → Refused system options told fault

-- A state of this system and these options has the log that is told, and at its end the live part
-- that is told.
pub record IsReplayed (system : System) (options : Options) (told : Told) (s : State) : Type 0 where
  pub setup : s.setup ≡ record { system = system; options = options }
  pub entries : logged s ≡ told.entries
  pub marks : LivePart system (end_marking s) told.marks

-- a refusal has its cause, unless memory ran out
abbrev pub Refuses : System → Options → Told → ReplayFault → Type 0
Refuses system options told (NoMemory _) = ⊤
Refuses system options told fault = Refused system options told fault

-- The answer of a replay.
abbrev pub Replays : System → Options → Told → Result State ReplayFault → Type 0
Replays system options told (Ok s) = IsReplayed system options told s
Replays system options told (Err fault) = Refuses system options told fault

-- In a state the firings that are told are done, below the step limit, and it is told that nothing is
-- enabled then. Whether that is so is open.
pub record IsUnsearched (told : Told) (s : State) : Type 0 where
  pub going : s.ended ≡ None
  pub entries : told.entries ≡ entries_of s.fired (Some Dead)
  pub below : length s.fired < s.setup.options.steps

-- The answer before the search: all is replayed; or the search decides, in a state of this system and
-- these options.
abbrev pub Begins : System → Options → Told → Result BegunReplay ReplayFault → Type 0
Begins system options told (Ok (Begin.Done s)) = IsReplayed system options told s
Begins system options told (Ok (Begin.Dead s)) =
    (s.setup ≡ record { system = system; options = options }) × IsUnsearched told s
Begins system options told (Err fault) = Refuses system options told fault
