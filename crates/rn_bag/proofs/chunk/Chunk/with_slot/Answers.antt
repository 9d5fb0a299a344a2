use Rattle.std.proofs.Common.{arith}
use Rattle.rn_bag.proofs.EditLemmas.{few_counted, with_seen}
use Rattle.rn_bag.proofs.chunk.Chunk.with_slot.Goals as goal

pub overflow_add-result : goal.overflow_add-result
overflow_add-result c = omega (arith, few_counted c.self.inside.list.now c.self.inside.word c.self.inside.count c.self.invariant)

pub returns-clause-chunk : goal.returns-clause-chunk
returns-clause-chunk c = (with_seen c.args.self.now c.self.inside.list.now c.self.inside.word c.with_bit.result c.self.inside.before c.self.inside.count c.args.slot c.self.view_is c.self.invariant c.requires.inside c.requires.free c.with_bit.ensures.there c.with_bit.ensures.others).0

pub returns-clause-tokens : goal.returns-clause-tokens
returns-clause-tokens c = (with_seen c.args.self.now c.self.inside.list.now c.self.inside.word c.with_bit.result c.self.inside.before c.self.inside.count c.args.slot c.self.view_is c.self.invariant c.requires.inside c.requires.free c.with_bit.ensures.there c.with_bit.ensures.others).1
