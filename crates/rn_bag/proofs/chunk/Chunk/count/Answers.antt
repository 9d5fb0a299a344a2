use Rattle.rn_bag.proofs.EditLemmas.{few_counted}
use Rattle.rn_bag.proofs.chunk.Chunk.count.Goals as goal

pub returns-clause-bound : goal.returns-clause-bound
returns-clause-bound c = few_counted c.self.inside.list.now c.self.inside.word c.self.inside.count c.self.invariant
