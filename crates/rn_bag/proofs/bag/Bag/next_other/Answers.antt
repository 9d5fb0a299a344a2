use Rattle.std.proofs.Common.{sym, arith}
use Rattle.rn_bag.proofs.CursorLemmas.{other_later, other_equal, other_other, within}
use Rattle.rn_bag.proofs.bag.Bag.next_other.Goals as goal

pub returns-in-Some-clause-later : goal.returns-in-Some-clause-later
returns-in-Some-clause-later c = λ _. other_later c.args.self.now c.args.index c.cut_at.result c.in-Some.value.now c.cut_at.ensures.ascend (sym c.in-Some.ensures) c.cut_at.ensures.before c.cut_at.ensures.rest

pub returns-in-Some-clause-equal : goal.returns-in-Some-clause-equal
returns-in-Some-clause-equal c = λ k later inside. other_equal c.args.self.now c.args.index c.cut_at.result c.in-Some.value.now c.cut_at.ensures.ascend (sym c.in-Some.ensures) c.cut_at.ensures.before c.cut_at.ensures.rest k later inside (omega (arith, inside, c.cut_at.ensures.bound))

pub returns-in-Some-clause-other : goal.returns-in-Some-clause-other
returns-in-Some-clause-other c = λ k past inside. other_other c.args.self.now c.args.index c.cut_at.result c.in-Some.value.now c.cut_at.ensures.ascend (sym c.in-Some.ensures) c.cut_at.ensures.before c.cut_at.ensures.rest k past inside

pub returns-in-Some-clause-past : goal.returns-in-Some-clause-past
returns-in-Some-clause-past c = λ past. absurd (omega (arith, past, within c.args.self.now c.args.index c.in-Some.value.now (sym c.in-Some.ensures)))
