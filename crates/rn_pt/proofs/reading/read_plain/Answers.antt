use Rattle.rn_reading.specs.Counting.{uncounted}
use Rattle.rn_reading.specs.link.Stages.{Anything}
use Rattle.rn_reading.proofs.Wholes.{whole_settles}
use Rattle.rn_pt.specs.Grammar.{IsPtNet}
use Rattle.rn_pt.proofs.reading.read_plain.Goals as goal

pub returns : goal.returns
returns c = whole_settles uncounted Anything tt tt IsPtNet c.args.lexed.now c.net.result c.whole.result tt c.net.ensures c.whole.ensures
