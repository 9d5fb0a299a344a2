use Rattle.std.proofs.Common.{◌∙◌, Err, ap}
use Rattle.rn_answering.proofs.Causes.{too_long_refused}
use Rattle.rn_answering.proofs.input.read_input.Goals as goal

pub returns-in-Err-TooLong-clause-stopped : goal.returns-in-Err-TooLong-clause-stopped
returns-in-Err-TooLong-clause-stopped g c =
    too_long_refused c.args.limit (g.I.Source.left c.args.input.now) (g.I.Source.faults c.args.input.now) (g.I.Source.faults c.read_all.new.source) c.refused_at.result (c.read_all.ensures.too_long (c.in-Err-TooLong.is ∙ ap Err c.in-Err-TooLong.field-0-is)) c.refused_at.ensures
