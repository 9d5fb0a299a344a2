-- Condition by condition.
use Rattle.std.proofs.Common.{◌∙◌, sym}
use Rattle.rn_looking.proofs.KindedValues.{negated_compares, sides_kinded}
use Rattle.rn_looking.proofs.guard_parts.has_untrue.Goals as goal

pub is_untrue_comparison-requires-clause-left : goal.is_untrue_comparison-requires-clause-left
is_untrue_comparison-requires-clause-left c =
    (sides_kinded c.args.growing.now c.args.head.now c.args.simples.now c.simple-item.result
    c.in-Compare.kind c.in-Compare.left c.in-Compare.right c.requires.kinds
    (c.loop-simple.simple-index, c.loop-simple-test.true, sym c.simple-item.is)
    c.in-Compare.is).0

pub is_untrue_comparison-requires-clause-right : goal.is_untrue_comparison-requires-clause-right
is_untrue_comparison-requires-clause-right c =
    (sides_kinded c.args.growing.now c.args.head.now c.args.simples.now c.simple-item.result
    c.in-Compare.kind c.in-Compare.left c.in-Compare.right c.requires.kinds
    (c.loop-simple.simple-index, c.loop-simple-test.true, sym c.simple-item.is)
    c.in-Compare.is).1

pub is_known_true-requires : goal.is_known_true-requires
is_known_true-requires c = record {
  kinds = negated_compares c.args.growing.now c.args.head.now c.args.simples.now
      c.simple-item.result c.in-Not.cond c.requires.kinds
      (c.loop-simple.simple-index, c.loop-simple-test.true, sym c.simple-item.is) c.in-Not.is;
}
