-- What is written of the state in which the workers leave a run is what its job comes to.
use Rattle.std.proofs.Common.{ℕ, subst}
use Rattle.std.specs.Prelude.{Ok}
use Rattle.rn_commands.specs.declared.jobs.Job.{Job}
use Rattle.rn_commands.specs.Jobs.{JobComesTo}
use Rattle.rn_commands.specs.link.Ends.{IsWrittenBy}
use Rattle.rn_commands.specs.link.Readying.{pick_of, setup_of}
use Rattle.rn_commands.specs.link.Workloads.{IsTalliedBy}
use Rattle.rn_commands.proofs.JobLemmas.{job_recorded, job_tallied}
use Rattle.rn_commands.proofs.ToldRuns.{endless_also, tells_also, told_also}
use Rattle.rn_commands.proofs.ready_jobs.ReadyJob.run_to.Goals as goal

pub returns-in-Record-clause-told : goal.returns-in-Record-clause-told
returns-in-Record-clause-told g c =
    let inside = c.self.inside in
    let seen : Job = record { system = (setup_of inside.ready).system; format = inside.format; options = (setup_of inside.ready).options; pick = pick_of inside.ready; telling = inside.telling } in
    let s = c.run_ready-state.result in
    let ran = c.run_ready-state.ensures in
    told_also (IsWrittenBy seen.format s) (JobComesTo c.args.self)
    (λ a is. subst (λ job. JobComesTo job a) c.self.view_is (job_recorded {E = ℕ} seen s ran.setup ran.workers c.in-Record.is ran.least (Ok a) is))
    _ _ _ _ _ _ c.write_recorded.result c.write_recorded.ensures.told

pub returns-in-Record-clause-endless : goal.returns-in-Record-clause-endless
returns-in-Record-clause-endless g c =
    let inside = c.self.inside in
    let seen : Job = record { system = (setup_of inside.ready).system; format = inside.format; options = (setup_of inside.ready).options; pick = pick_of inside.ready; telling = inside.telling } in
    let s = c.run_ready-state.result in
    let ran = c.run_ready-state.ensures in
    λ none. endless_also (IsWrittenBy seen.format s) (JobComesTo c.args.self)
    (λ a is. subst (λ job. JobComesTo job a) c.self.view_is (job_recorded {E = ℕ} seen s ran.setup ran.workers c.in-Record.is ran.least (Ok a) is))
    (c.write_recorded.ensures.endless none)

pub returns-clause-told : goal.returns-clause-told
returns-clause-told g c =
    let inside = c.self.inside in
    let seen : Job = record { system = (setup_of inside.ready).system; format = inside.format; options = (setup_of inside.ready).options; pick = pick_of inside.ready; telling = inside.telling } in
    let s = c.run_ready-state.result in
    let ran = c.run_ready-state.ensures in
    tells_also (IsTalliedBy s) (JobComesTo c.args.self)
    (λ a is. subst (λ job. JobComesTo job a) c.self.view_is (job_tallied {E = ℕ} seen s ran.setup ran.workers c.in-Tally.is (Ok a) is))
    _ _ _ _ _ _ c.write_tallied.result c.write_tallied.ensures
