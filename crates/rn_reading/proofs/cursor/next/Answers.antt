use Rattle.rn_reading.proofs.Steps.{next_lent}
use Rattle.rn_reading.proofs.cursor.next.Goals as goal

pub returns-clause-next : goal.returns-clause-next
returns-clause-next c = next_lent c.args.tokens.now c.args.at c.get.result c.get.ensures.value
