-- A run of the workload text comes to what its job does.
use Rattle.std.proofs.Common.{subst}
use Rattle.rn_commands.specs.Workloads.{GensTo}
use Rattle.rn_commands.proofs.workload.run_workload_by.Goals as goal

pub returns : goal.returns
returns g c =
    let job = c.in_ok-job.ensures in
    subst (λ options. GensTo c.args.copies options c.in_ok-run_job.field-0) job.asked.0
    (c.in_ok-run_job.ensures.tallied job.asked.2 c.args.copies job.accepted)
