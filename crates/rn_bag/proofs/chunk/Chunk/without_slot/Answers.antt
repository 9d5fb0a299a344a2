use Rattle.rn_bag.proofs.EditLemmas.{without_seen}
use Rattle.rn_bag.proofs.chunk.Chunk.without_slot.Goals as goal

pub overflow_sub-result : goal.overflow_sub-result
overflow_sub-result c = (without_seen c.args.self.now c.self.inside.list.now c.self.inside.word c.without_bit.result c.self.inside.before c.self.inside.count c.args.slot c.self.view_is c.self.invariant c.requires.inside c.requires.there c.without_bit.ensures.gone c.without_bit.ensures.others).0

pub returns-clause-chunk : goal.returns-clause-chunk
returns-clause-chunk c = (without_seen c.args.self.now c.self.inside.list.now c.self.inside.word c.without_bit.result c.self.inside.before c.self.inside.count c.args.slot c.self.view_is c.self.invariant c.requires.inside c.requires.there c.without_bit.ensures.gone c.without_bit.ensures.others).1

pub returns-clause-tokens : goal.returns-clause-tokens
returns-clause-tokens c = (without_seen c.args.self.now c.self.inside.list.now c.self.inside.word c.without_bit.result c.self.inside.before c.self.inside.count c.args.slot c.self.view_is c.self.invariant c.requires.inside c.requires.there c.without_bit.ensures.gone c.without_bit.ensures.others).2
