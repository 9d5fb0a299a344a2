-- What is done without threads, and what is left to them.
use Rattle.std.specs.Prelude.{ℕ, ◌≡◌, ◌≤◌, List, [], length, Option, Some, None, ⊤}
use Rattle.rn_model.specs.Good.{Good, IsInLimits}
use Rattle.rn_record.specs.RecordText.{IsFormat}
use Rattle.rn_outside.specs.Bytes.{GivesAll}
use Rattle.rn_words.specs.declared.command.Command.{Command}
use Rattle.rn_words.specs.declared.command.Command.TheVariants as command
use Rattle.rn_words.specs.Commands.{WordsOk}
use Rattle.rn_gen.specs.Workload.{workload}
use Rattle.rn_answering.specs.NetTexts.{Accepted, AcceptedIn}
use Rattle.rn_answering.specs.Input.{longest_input}
use Rattle.rn_commands.specs.declared.jobs.Job.{Job}
use Rattle.rn_commands.specs.declared.jobs.Pick.TheVariants.{Any, Seeded, Least}
use Rattle.rn_commands.specs.declared.jobs.Telling.TheVariants.{Record, Tally}
use Rattle.rn_commands.specs.Jobs.{IsAskedBy}
use Rattle.rn_app.specs.declared.beginning.Begun.{Begun}
use Rattle.rn_app.specs.declared.beginning.Begun.TheVariants.{Done, Working}

-- the commands whose work is a run by workers, which needs threads
abbrev pub NeedsThreads : Command → Type 0
NeedsThreads (command.Run options) = ⊤
NeedsThreads (command.RunLeast options) = ⊤
NeedsThreads (command.RunSeeded options seed) = ⊤
NeedsThreads (command.Gen copies options) = ⊤
NeedsThreads (command.GenSeeded copies options seed) = ⊤
NeedsThreads _ = ⊥

-- The run that a command asks for on the bytes of its input. For `run` these are a net text of its
-- system, and its record is asked for, in the format of the text's notation; for `gen` that is the workload text, and its tally.
abbrev pub AsksFor : Command → List ℕ → Job → Type 0
AsksFor (command.Run options) bytes job =
    AcceptedIn job.format bytes job.system × IsAskedBy options Any Record job
AsksFor (command.RunLeast options) bytes job =
    AcceptedIn job.format bytes job.system × IsAskedBy options Least Record job
AsksFor (command.RunSeeded options seed) bytes job =
    AcceptedIn job.format bytes job.system × IsAskedBy options (Seeded seed) Record job
AsksFor (command.Gen copies options) bytes job =
    Accepted (workload copies) job.system × IsAskedBy options Any Tally job
AsksFor (command.GenSeeded copies options seed) bytes job =
    Accepted (workload copies) job.system × IsAskedBy options (Seeded seed) Tally job
AsksFor _ bytes job = ⊥

-- a run can be done: its system is good, its options are within their limits, and there is its format
abbrev pub CanRun : Job → Type 0
CanRun job = Good job.system × IsInLimits job.options × IsFormat job.format

-- A run is due: the words give a command that asks for it on its input. All of the input was taken,
-- and is within the limit of the command; for `gen` nothing was.
pub record IsDue (words : List (List ℕ)) (left left_after : Option (List ℕ)) (job : Job)
    : Type 0 where
  pub chosen : Command
  pub given : WordsOk words chosen
  pub bytes : List ℕ
  pub asked : AsksFor chosen bytes job
  pub can_run : CanRun job
  pub inputless : longest_input chosen ≡ None → (left_after ≡ left) × (bytes ≡ [])
  pub whole : (limit : ℕ) → longest_input chosen ≡ Some limit →
      GivesAll left bytes left_after × (length bytes ≤ limit)

-- where all is done, its status has this
abbrev pub IfDone : Begun → (ℕ → Type 0) → Type 0
IfDone (Done status) P = P status
IfDone (Working job) P = ⊤

-- all is done, and its status has this
abbrev pub IsDone : Begun → (ℕ → Type 0) → Type 0
IsDone (Done status) P = P status
IsDone (Working job) P = ⊥

-- where a run is due, it has this
abbrev pub IfWorking : Begun → (Job → Type 0) → Type 0
IfWorking (Done status) P = ⊤
IfWorking (Working job) P = P job
