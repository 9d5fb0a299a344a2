use Rattle.std.proofs.Common.{◌≡◌, subst, sym, ◌∙◌, ap, ◌++◌}
use Rattle.rn_finder.specs.Starting.{AreJust, HasStartIn}
use Rattle.rn_finder.proofs.JustThese.{just_sorted}
use Rattle.rn_finder.proofs.Ordered.{ascends, still_once}
use Rattle.rn_finder.proofs.instance.bindings_of.Goals as goal

pub returns-clause-just : goal.returns-clause-just
returns-clause-just c =
    let more = c.in_ok-put_at.ensures in
    let is : c.put_at.new.found.items ≡ more.0 = more.1 ∙
    ap (λ xs. xs ++ more.0) c.new-found.ensures.items in
    just_sorted c.args.system.now c.args.table.now.marking c.args.depth (HasStartIn c.args.instance)
    c.put_at.new.found.items c.sort_bindings.new.found.items
    (subst (AreJust c.args.system.now c.args.table.now.marking c.args.depth
    (HasStartIn c.args.instance)) (sym is) more.2)
    c.in_ok-sort_bindings.ensures.same

pub returns-clause-ascending : goal.returns-clause-ascending
returns-clause-ascending c =
    let more = c.in_ok-put_at.ensures in
    let is : c.put_at.new.found.items ≡ more.0 = more.1 ∙
    ap (λ xs. xs ++ more.0) c.new-found.ensures.items in
    ascends c.sort_bindings.new.found.items c.in_ok-sort_bindings.ensures.sorted
    (still_once c.put_at.new.found.items c.sort_bindings.new.found.items
    c.in_ok-sort_bindings.ensures.same
    (subst (AreJust c.args.system.now c.args.table.now.marking c.args.depth
    (HasStartIn c.args.instance)) (sym is) more.2).once)
