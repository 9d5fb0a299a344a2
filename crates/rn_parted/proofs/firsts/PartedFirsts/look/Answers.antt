use Rattle.rn_finder.proofs.FirstBindings.{least_of_all, none_of_all}
use Rattle.rn_parted.proofs.firsts.PartedFirsts.look.Goals as goal

pub returns-clause-least : goal.returns-clause-least
returns-clause-least c =
    least_of_all c.args.system.now c.args.table.now.marking c.args.depth c.in_ok-found.found
    c.in_ok-found.ensures

pub returns-clause-none : goal.returns-clause-none
returns-clause-none c =
    none_of_all c.args.system.now c.args.table.now.marking c.args.depth c.in_ok-found.found
    c.in_ok-found.ensures
