use Rattle.rn_readable.proofs.ReadableLogs.{logs_are_readable}
use Rattle.rn_readable.proofs.laws.logs_are_readable.Goals as goal

pub returns : goal.returns
returns c = logs_are_readable
