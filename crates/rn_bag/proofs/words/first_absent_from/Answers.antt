use Rattle.std.proofs.Common.{arith}
use Rattle.rn_bag.proofs.WordLemmas.{absent_bit, present_bit}
use Rattle.rn_bag.proofs.words.first_absent_from.Goals as goal

pub returns-clause-absent : goal.returns-clause-absent
returns-clause-absent c = λ low. absent_bit c.args.word c.first_from.result (omega arith) low (c.first_from.ensures.there low)

pub returns-clause-present : goal.returns-clause-present
returns-clause-present c = λ i high low. present_bit c.args.word i (omega arith) (omega arith) (c.first_from.ensures.none i high low)
