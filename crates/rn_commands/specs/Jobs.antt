-- Runs that are due, and what they come to.
use Rattle.std.specs.Prelude.{ℕ, ◌≡◌, List}
use Rattle.rn_model.specs.declared.log.Options.{Options}
use Rattle.rn_gen.specs.Workload.{workload}
use Rattle.rn_answering.specs.declared.answer.Answer.{Answer}
use Rattle.rn_answering.specs.NetTexts.{Accepted, AcceptedIn}
use Rattle.rn_commands.specs.declared.jobs.Job.{Job}
use Rattle.rn_commands.specs.declared.jobs.Pick.{Pick}
use Rattle.rn_commands.specs.declared.jobs.Pick.TheVariants.{Least}
use Rattle.rn_commands.specs.declared.jobs.Telling.{Telling}
use Rattle.rn_commands.specs.declared.jobs.Telling.TheVariants.{Record, Tally}
use Rattle.rn_commands.specs.Runs.{RunsTo}
use Rattle.rn_commands.specs.LeastRuns.{RunsLeastTo}
use Rattle.rn_commands.specs.Workloads.{GensTo}

-- a run has these options, what fires in it is picked so, and so it is reported
abbrev pub IsAskedBy : Options → Pick → Telling → Job → Type 0
IsAskedBy options pick telling job =
    (job.options ≡ options) × (job.pick ≡ pick) × (job.telling ≡ telling)

-- What a run comes to that was due. Its record is what `run` comes to on each net text of its system
-- in the notation of its format, also with each firing by the first binding that is enabled, where so it was picked. Its tally is what
-- `gen` comes to, where its system is that of the workload text.
pub record JobComesTo (job : Job) (a : Answer) : Type 0 where
  pub recorded : job.telling ≡ Record → (bytes : List ℕ) →
      AcceptedIn job.format bytes job.system → RunsTo job.options bytes a
  pub least : job.telling ≡ Record → job.pick ≡ Least → (bytes : List ℕ) →
      AcceptedIn job.format bytes job.system → RunsLeastTo job.options bytes a
  pub tallied : job.telling ≡ Tally → (copies : ℕ) → Accepted (workload copies) job.system →
      GensTo copies job.options a
