-- A run of an accepted net text comes to what its job does.
use Rattle.std.proofs.Common.{inr, subst, ◌∙◌}
use Rattle.rn_commands.specs.LeastRuns.{RunsLeastTo}
use Rattle.rn_commands.specs.Runs.{RunsTo}
use Rattle.rn_commands.proofs.runs.run_by.Goals as goal

pub returns-clause-runs : goal.returns-clause-runs
returns-clause-runs g c =
    let job = c.in_ok-job.ensures in
    inr (subst (λ options. RunsTo options c.args.bytes.now c.in_ok-run_job.field-0) job.asked.0
    (c.in_ok-run_job.ensures.recorded job.asked.2 c.args.bytes.now job.accepted))

pub returns-clause-least : goal.returns-clause-least
returns-clause-least g c = λ first.
    let job = c.in_ok-job.ensures in
    inr (subst (λ options. RunsLeastTo options c.args.bytes.now c.in_ok-run_job.field-0) job.asked.0
    (c.in_ok-run_job.ensures.least job.asked.2 (job.asked.1 ∙ first) c.args.bytes.now job.accepted))
