-- What is replayed is true; what is refused isn't, and has one cause.
use Rattle.std.specs.Prelude.{◌≡◌, ◌≢◌, List, Some}
use Rattle.rn_items.specs.Memory.{no_memory}
use Rattle.rn_model.specs.declared.system.System.{System}
use Rattle.rn_model.specs.declared.log.Options.{Options}
use Rattle.rn_model.specs.declared.log.Reason.{Reason}
use Rattle.rn_model.specs.declared.log.Told.{Told}
use Rattle.rn_model.specs.Liveness.{LivePart}
use Rattle.rn_model.specs.Runs.{Firing, Log, end_of, entries_of}
use Rattle.rn_fire.specs.States.{State, IsState}
use Rattle.rn_replay.specs.Replays.{IsReplayed, IsWhole, Refused}
use Rattle.rn_replay.specs.declared.fault.ReplayFault.{ReplayFault}
use Rattle.rn_replay.specs.declared.fault.ReplayFault.TheVariants.{NoMemory}

-- What is told is a run within the step limit with an end that is true, and its marks are those of
-- what is live then.
pub record IsTrueRecord (system : System) (options : Options) (told : Told) : Type 0 where
  pub fired : List Firing
  pub reason : Reason
  pub entries : told.entries ≡ entries_of fired (Some reason)
  pub log : Log system options fired (Some reason)
  pub marks : LivePart system (end_of system fired) told.marks

-- what is replayed, as a state has it, is true
abbrev pub ReplayedAreTrue : Type 0
ReplayedAreTrue = (system : System) (options : Options) (told : Told) (s : State) → IsState s →
    IsWhole told.entries → IsReplayed system options told s → IsTrueRecord system options told

-- what is refused for a cause isn't true
abbrev pub RefusedAreUntrue : Type 0
RefusedAreUntrue = (system : System) (options : Options) (told : Told) (fault : ReplayFault) →
    Refused system options told fault → fault ≢ NoMemory no_memory →
    ¬ IsTrueRecord system options told

-- what is refused is refused for one cause, and by one number
abbrev pub RefusedForOneCause : Type 0
RefusedForOneCause = (system : System) (options : Options) (told : Told) (fault other : ReplayFault) →
    Refused system options told fault → Refused system options told other →
    fault ≢ NoMemory no_memory → other ≢ NoMemory no_memory → fault ≡ other
