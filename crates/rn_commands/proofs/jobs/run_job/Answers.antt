-- What is reported of the state in which the workers leave a run.
use Rattle.rn_commands.proofs.JobLemmas.{job_recorded}
use Rattle.rn_commands.proofs.jobs.run_job.Goals as goal

pub returns-in-Record : goal.returns-in-Record
returns-in-Record g c =
    let state = c.in_ok-state.ensures in
    job_recorded c.args.job c.in_ok-state.state state.setup state.workers c.in-Record.is state.least
    c.written.result c.written.ensures
