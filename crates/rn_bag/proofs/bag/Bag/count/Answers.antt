use Rattle.std.proofs.Common.{◌≡◌, ◌+◌, arith}
use Rattle.rn_model.specs.Lists.{count_of}
use Rattle.rn_bag.proofs.CursorLemmas.{count_between}
use Rattle.rn_bag.proofs.bag.Bag.count.Goals as goal

between : (c : goal.After-cut_at-2) → count_of c.args.value.now c.args.self.now + c.cut_at-2.result ≡ c.cut_at.result
between c =
    count_between c.args.value.now c.args.self.now c.cut_at-2.result c.cut_at.result c.cut_at-2.ensures.bound c.cut_at.ensures.bound
    c.cut_at-2.ensures.before c.cut_at-2.ensures.rest c.cut_at.ensures.before c.cut_at.ensures.rest

pub overflow_sub-result : goal.overflow_sub-result
overflow_sub-result c = omega (arith, between c)

pub returns : goal.returns
returns c = omega (arith, between c)
