use Rattle.rn_finder.proofs.JustThese.{just_enabled}
use Rattle.rn_finder.proofs.Ordered.{ascends, still_once}
use Rattle.rn_finder.proofs.every.all_bindings.Goals as goal

pub returns-clause-just : goal.returns-clause-just
returns-clause-just c =
    just_enabled c.args.system.now c.args.table.now.marking c.args.depth
    c.in_ok-found.found.items c.sort_bindings.new.found.items c.in_ok-found.ensures
    c.in_ok-sort_bindings.ensures.same

pub returns-clause-ascending : goal.returns-clause-ascending
returns-clause-ascending c =
    ascends c.sort_bindings.new.found.items c.in_ok-sort_bindings.ensures.sorted
    (still_once c.in_ok-found.found.items c.sort_bindings.new.found.items
    c.in_ok-sort_bindings.ensures.same c.in_ok-found.ensures.once)
