-- By the form of the expression.
use Rattle.std.proofs.Common.{rules, ◌≡◌, ◌++◌, ◌∷◌, [], ◌<◌, map, length, vec_len, ap, sym, ◌∙◌}
use Rattle.std.proofs.Common.{arith, length-append}
use Rattle.rn_growing.proofs.BuildingSteps.{popped_front}
use Rattle.rn_growing.specs.Decisions.{site_of}
use Rattle.rn_binding.specs.link.Applications.{application_of, with_holes, hole_within}
use Rattle.rn_model.specs.Derivation.{holes_in, holes_of_parts}
use Rattle.rn_model.proofs.DerivationLemmas.{holes_in-Int, holes_in-Text, holes_in-Var, holes_in-This}
use Rattle.rn_binding.proofs.HoleForms.{cons_put, part_put, none_put, holes-Step}
use Rattle.rn_binding.proofs.applications.+holes.Goals as goal

pub put_holes-returns-in_ok-put_holes-in-Cons-clause-put :
    goal.put_holes-returns-in_ok-put_holes-in-Cons-clause-put
put_holes-returns-in_ok-put_holes-in-Cons-clause-put t c =
    let longer : c.push.new.self.items ≡ c.args.way.now.items ++ c.len.result ∷ [] = search rules in
    let many : c.len.result ≡ length c.in-Cons.exprs = search rules in
    cons_put (site_of c.args.site) c.args.way.now.items c.push.new.self.items
    c.args.expr.now c.in-Cons.exprs c.as_slice-in-Cons.result.now c.in-Cons.tail c.get.result.now
    c.len.result (map application_of c.args.found.now.items)
    (map application_of c.put_holes_of-in-Cons.new.found.items) (map application_of c.put_holes.new.found.items)
    c.in-Cons.is c.as_slice-in-Cons.ensures c.get.ensures many longer
    c.in_ok-put_holes_of-in-Cons.ensures.put c.in_ok-put_holes-in-Cons.ensures.put

pub put_holes_of-loop-i-preserved : goal.put_holes_of-loop-i-preserved
put_holes_of-loop-i-preserved t c =
    let longer : c.push.new.self.items ≡ c.loop-i.way.items ++ c.loop-i.i ∷ [] = search rules in
    let back : c.put_holes.new.way.items ≡ c.push.new.self.items = search rules in
    let some : 0 < vec_len c.put_holes.new.way = grind (arith, length-append c.loop-i.way.items (c.loop-i.i ∷ []), ap length (back ∙ longer)) in (
      popped_front c.pop.new.self.items c.loop-i.way.items c.pop.result c.loop-i.i
          (sym c.pop.ensures.items ∙ back ∙ longer) (c.pop.ensures.variant.1 some)
          ∙ c.loop-i.invariant.0,
      part_put (site_of c.args.site) c.args.way.now.items c.loop-i.way.items
          c.push.new.self.items c.args.exprs.now c.loop-i.i c.index-exprs-i.result
          (map application_of c.loop-i.found.items) (map application_of c.put_holes.new.found.items)
          (map application_of c.args.found.now.items
          ++ map (hole_within (site_of c.args.site) c.args.way.now.items)
          (holes_of_parts 0 (map with_holes c.args.exprs.now)))
          c.loop-i-test.true c.index-exprs-i.is c.loop-i.invariant.0 longer c.loop-i.invariant.1
          c.in_ok-put_holes.ensures.put,
    )

pub put_holes-returns-in-Int-clause-put : goal.put_holes-returns-in-Int-clause-put
put_holes-returns-in-Int-clause-put t c =
    none_put (site_of c.args.site) c.args.way.now.items c.args.expr.now
    (map application_of c.args.found.now.items) (ap holes_in c.in-Int.is ∙ holes_in-Int c.in-Int.field-0)

pub put_holes-returns-in-Text-clause-put : goal.put_holes-returns-in-Text-clause-put
put_holes-returns-in-Text-clause-put t c =
    none_put (site_of c.args.site) c.args.way.now.items c.args.expr.now
    (map application_of c.args.found.now.items) (ap holes_in c.in-Text.is ∙ holes_in-Text c.in-Text.field-0)

pub put_holes-returns-in-Var-clause-put : goal.put_holes-returns-in-Var-clause-put
put_holes-returns-in-Var-clause-put t c =
    none_put (site_of c.args.site) c.args.way.now.items c.args.expr.now
    (map application_of c.args.found.now.items) (ap holes_in c.in-Var.is ∙ holes_in-Var c.in-Var.field-0)

pub put_holes-returns-in-This-clause-put : goal.put_holes-returns-in-This-clause-put
put_holes-returns-in-This-clause-put t c =
    none_put (site_of c.args.site) c.args.way.now.items c.args.expr.now
    (map application_of c.args.found.now.items) (ap holes_in c.in-This.is ∙ holes_in-This)

pub put_holes-returns-in-Step-clause-put : goal.put_holes-returns-in-Step-clause-put
put_holes-returns-in-Step-clause-put t c =
    none_put (site_of c.args.site) c.args.way.now.items c.args.expr.now
    (map application_of c.args.found.now.items) (ap holes_in c.in-Step.is ∙ holes-Step)
