use Rattle.std.proofs.Common.{Err, ap}
use Rattle.rn_answering.proofs.Causes.{plain_refused}
use Rattle.rn_answering.proofs.net_text.checked.Goals as goal

pub returns-in-Err-clause-refused : goal.returns-in-Err-clause-refused
returns-in-Err-clause-refused c =
    plain_refused c.args.plain c.in-Err.fault c.refused_plain.result (λ rule spot is. c.in-Err.ensures.refused rule spot (ap Err is)) c.refused_plain.ensures.memory c.refused_plain.ensures.line
