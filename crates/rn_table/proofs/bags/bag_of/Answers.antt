use Rattle.std.proofs.Common.{◌≡◌, drop, ap, ◌∙◌, arith}
use Rattle.rn_model.specs.Lists.{ordered_values}
use Rattle.rn_table.proofs.bags.bag_of.Goals as goal

pub returns : goal.returns
returns c = c.loop-i.invariant ∙ ap (λ n. ordered_values (drop n c.as_slice-values.result.now)) (let e : c.loop-i.i ≡ 0 = omega arith in e) ∙ ap ordered_values c.as_slice-values.ensures
