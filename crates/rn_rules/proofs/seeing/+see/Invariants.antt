-- What was seen and reported is that of the expressions so far.
use Rattle.std.proofs.Common.{◌≡◌, map, take}
use Rattle.std.specs.Prelude.{flat_map}
use Rattle.rn_declared.specs.declared.pattern.Pattern.TheVariants as Form
use Rattle.rn_declared.specs.Faults.{first_from}
use Rattle.rn_rules.specs.Expressions.{seen_of, whole, with_elements}
use Rattle.rn_rules.specs.link.Sights.{where_of, sight_of}
use Rattle.rn_rules.proofs.seeing.+see.Given as goal

abbrev pub invariant-see_all-loop-expr : goal.invariant-see_all-loop-expr
invariant-see_all-loop-expr g l = record {
  kept : l.sights.items
      ≡ map sight_of (map (λ seen. seen (where_of l.fn.here)) (map seen_of (take l.expr-index l.exprs)));
  told : l.first.fault ≡ first_from l.initial.first.fault
      (flat_map (λ e. e.faults)
      (map (λ seen. seen (where_of l.fn.here)) (map seen_of (take l.expr-index l.exprs))));
}

abbrev pub invariant-see_elements-loop-element : goal.invariant-see_elements-loop-element
invariant-see_elements-loop-element g l = record {
  kept : l.before
      ≡ sight_of (with_elements (whole l.fn.spot Form.Any)
      (map (λ seen. seen (where_of l.fn.here)) (map seen_of (take l.element-index l.elements))));
  told : l.first.fault ≡ first_from l.initial.first.fault
      (with_elements (whole l.fn.spot Form.Any)
      (map (λ seen. seen (where_of l.fn.here)) (map seen_of (take l.element-index l.elements)))).faults;
}
