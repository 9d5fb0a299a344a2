use Rattle.std.proofs.Common.{◌+◌, ◌∙◌, sym, subst, arith}
use Rattle.rn_finder.specs.Starting.{AreJust}
use Rattle.rn_finder.proofs.StartingBindings.{HasStartBefore, all_before, more_before}
use Rattle.rn_finder.proofs.StartingBindings.{next_is_below, next_is_later}
use Rattle.rn_finder.proofs.every.all_of.Goals as goal

pub overflow_add-from : goal.overflow_add-from
overflow_add-from c =
    let below = next_is_below c.args.marked.system.now c.args.marked.uplinks.now
    c.args.marked.table.now c.args.marked.depth c.requires c.loop-number.from c.in-Some.number
    (sym c.first_starting.ensures ∙ c.in-Some.is) in
    omega arith

pub loop-number-preserved : goal.loop-number-preserved
loop-number-preserved c =
    let more = c.in_ok-put_at.ensures in
    subst
    (AreJust c.args.marked.system.now c.args.marked.table.now.marking c.args.marked.depth
    (HasStartBefore (c.in-Some.number + 1)))
    (sym more.1)
    (more_before c.args.marked.system.now c.args.marked.uplinks.now c.args.marked.table.now
    c.args.marked.depth c.requires c.loop-number.from c.in-Some.number c.loop-number.found.items
    more.0 (sym c.first_starting.ensures ∙ c.in-Some.is)
    c.loop-number.invariant more.2)

pub loop-number-smaller : goal.loop-number-smaller
loop-number-smaller c =
    let later = next_is_later c.args.marked.system.now c.args.marked.uplinks.now
    c.args.marked.table.now c.args.marked.depth c.requires c.loop-number.from c.in-Some.number
    (sym c.first_starting.ensures ∙ c.in-Some.is) in
    let below = next_is_below c.args.marked.system.now c.args.marked.uplinks.now
    c.args.marked.table.now c.args.marked.depth c.requires c.loop-number.from c.in-Some.number
    (sym c.first_starting.ensures ∙ c.in-Some.is) in
    omega arith

pub returns : goal.returns
returns c =
    all_before c.args.marked.system.now c.args.marked.uplinks.now c.args.marked.table.now
    c.args.marked.depth c.requires c.loop-number.from c.loop-number.found.items
    (sym c.first_starting.ensures ∙ c.in_default.is) c.loop-number.invariant
