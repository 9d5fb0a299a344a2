use Rattle.rn_record_reader.proofs.NodeLemmas.{step_is}
use Rattle.rn_record_reader.proofs.judging.is_step.Goals as goal

pub returns : goal.returns
returns c = step_is c.args.step c.args.digits.now c.is_numeral.result c.is_numeral.ensures
