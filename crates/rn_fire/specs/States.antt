-- What contracts see of a state: its system and options, its log and its table.
use Rattle.std.specs.Prelude.{ℕ, List, Option}
use Rattle.rn_model.specs.declared.log.Entry.{Entry}
use Rattle.rn_model.specs.declared.log.Entry.TheVariants.{Fire, End}
use Rattle.rn_model.specs.declared.log.Reason.{Reason}
use Rattle.rn_model.specs.Good.{Good, IsInLimits}
use Rattle.rn_model.specs.Liveness.{Stands}
use Rattle.rn_model.specs.Markings.{Marking}
use Rattle.rn_model.specs.Runs.{Firing, Log, end_of, entries_of}
use Rattle.rn_table.specs.Tables.{Kept, IsTableOf}
use Rattle.rn_fire.specs.declared.setup.Setup.{Setup}

-- A state: its system and options, the firings of its log, the log's end, where it has one, and
-- its table.
pub record State : Type 0 where
  pub setup : Setup
  pub fired : List Firing
  pub ended : Option Reason
  pub table : Kept

-- the entries of its log
abbrev pub logged : State → List Entry
logged s = entries_of s.fired s.ended

-- the worker that authored an entry; none authored an end
abbrev pub author_of : Entry → ℕ
author_of (Fire worker binding outs) = worker
author_of (End reason) = 0

-- the marking at the end of its log, which keeps each instance that was ever made
abbrev pub end_marking : State → Marking
end_marking s = end_of s.setup.system s.fired

-- What is true of each state: its system is good and its options are within the limits; its log is
-- a log of them, a run with at most one end, which is true; and its table stands for the marking at
-- the end of the run.
pub record IsState (s : State) : Type 0 where
  pub good : Good s.setup.system
  pub limits : IsInLimits s.setup.options
  pub log : Log s.setup.system s.setup.options s.fired s.ended
  pub stands : Stands s.setup.system s.table.marking (end_marking s)
  pub of_system : IsTableOf s.setup.system s.table
