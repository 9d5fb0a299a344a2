-- What runs that were due come to.
use Rattle.std.proofs.Common.{◌≡◌, ◌∙◌, sym}
use Rattle.std.specs.Prelude.{All, Err, IfOk, Ok, Result}
use Rattle.rn_fire.specs.States.{State}
use Rattle.rn_least_state.specs.LeastStates.{HasLeastLog}
use Rattle.rn_answering.specs.declared.answer.Answer.{Answer}
use Rattle.rn_commands.specs.declared.jobs.Job.{Job}
use Rattle.rn_commands.specs.declared.jobs.Pick.TheVariants.{Least}
use Rattle.rn_commands.specs.declared.jobs.Telling.TheVariants.{Record, Tally}
use Rattle.rn_commands.specs.link.Ends.{IsWrittenBy}
use Rattle.rn_commands.specs.Jobs.{JobComesTo}
use Rattle.rn_commands.specs.Runs.{IsOfWorkers}
use Rattle.rn_commands.specs.link.Workloads.{IsTalliedBy}
use Rattle.rn_commands.proofs.EndedRuns.{gens_to, runs_to}
use Rattle.rn_commands.proofs.LeastEnds.{runs_least_to}

-- Of a state in which a job was left by its workers.
module _ {E : Type 0} (job : Job) (s : State)
    (setup : s.setup ≡ record { system = job.system; options = job.options })
    (own : All (IsOfWorkers job.options.workers) s.fired) where
  -- its record
  pub job_recorded : job.telling ≡ Record → (job.pick ≡ Least → HasLeastLog s) → (r : Result Answer E) →
      IfOk r (λ a. IsWrittenBy job.format s a) → IfOk r (λ a. JobComesTo job a)
  job_recorded is least (Ok a) written = record {
    recorded = λ same bytes accepted. runs_to job.system job.options s a setup own bytes job.format accepted written;
    least = λ same first bytes accepted.
        runs_least_to job.system job.options s a setup own (least first) bytes job.format accepted written;
    tallied = λ other. let no : Record ≡ Tally = sym is ∙ other in absurd cc;
  }
  job_recorded is least (Err e) written = tt

  -- its tally
  pub job_tallied : job.telling ≡ Tally → (r : Result Answer E) → IfOk r (λ a. IsTalliedBy s a) →
      IfOk r (λ a. JobComesTo job a)
  job_tallied is (Ok a) tallied = record {
    recorded = λ other. let no : Tally ≡ Record = sym is ∙ other in absurd cc;
    least = λ other. let no : Tally ≡ Record = sym is ∙ other in absurd cc;
    tallied = λ same copies accepted.
        gens_to job.system job.options s a setup own copies accepted tallied;
  }
  job_tallied is (Err e) tallied = tt
