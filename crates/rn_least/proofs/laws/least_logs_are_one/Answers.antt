use Rattle.rn_least.proofs.OneRun.{least_logs_are_alike, memory_ends_earlier, memory_ends_in_line}
use Rattle.rn_least.proofs.laws.least_logs_are_one.Goals as goal

pub returns-clause-alike : goal.returns-clause-alike
returns-clause-alike c = least_logs_are_alike

pub returns-clause-earlier : goal.returns-clause-earlier
returns-clause-earlier c = memory_ends_earlier

pub returns-clause-line : goal.returns-clause-line
returns-clause-line c = memory_ends_in_line
