use Rattle.std.proofs.Common.{◌∙◌, sym, arith}
use Rattle.rn_finder.proofs.StartingBindings.{next_is_below, next_is_later}
use Rattle.rn_firsts.proofs.InOrder.{first_with_next, none_at_all, one_more_looked}
use Rattle.rn_firsts.proofs.looking.first_from.Goals as goal

pub overflow_add-until : goal.overflow_add-until
overflow_add-until c =
    let below = next_is_below c.args.marked.system.now c.args.marked.uplinks.now c.args.marked.table.now c.args.marked.depth
    c.requires.searched c.loop-number.until c.in-Some.number
    (sym c.first_starting.ensures ∙ c.in-Some.is) in
    omega arith

pub loop-number-preserved : goal.loop-number-preserved
loop-number-preserved c =
    one_more_looked c.args.marked.system.now c.args.marked.uplinks.now c.args.marked.table.now c.args.marked.depth
    c.loop-number.until c.requires.searched c.loop-number.invariant c.in-Some.number
    (sym c.first_starting.ensures ∙ c.in-Some.is)
    (rw c.in_default-found.is at c.in_ok-found.ensures)

pub loop-number-smaller : goal.loop-number-smaller
loop-number-smaller c =
    let later = next_is_later c.args.marked.system.now c.args.marked.uplinks.now c.args.marked.table.now c.args.marked.depth
    c.requires.searched c.loop-number.until c.in-Some.number
    (sym c.first_starting.ensures ∙ c.in-Some.is) in
    let below = next_is_below c.args.marked.system.now c.args.marked.uplinks.now c.args.marked.table.now c.args.marked.depth
    c.requires.searched c.loop-number.until c.in-Some.number
    (sym c.first_starting.ensures ∙ c.in-Some.is) in
    omega arith

pub returns-in-Some-found-clause-first : goal.returns-in-Some-found-clause-first
returns-in-Some-found-clause-first c =
    first_with_next c.args.marked.system.now c.args.marked.uplinks.now c.args.marked.table.now c.args.marked.depth
    c.loop-number.until c.requires.searched c.loop-number.invariant c.in-Some.number
    c.in-Some-found.first (sym c.first_starting.ensures ∙ c.in-Some.is)
    (rw c.in-Some-found.is at c.in_ok-found.ensures)

pub returns-clause-first : goal.returns-clause-first
returns-clause-first c =
    none_at_all c.args.marked.system.now c.args.marked.uplinks.now c.args.marked.table.now c.args.marked.depth
    c.loop-number.until c.requires.searched c.loop-number.invariant
    (sym c.first_starting.ensures ∙ c.in_default.is)
