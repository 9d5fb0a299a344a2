use Rattle.rn_finder.proofs.FirstBindings.{least_of_all, none_of_all}
use Rattle.std.proofs.lemmas.Result.{IfOk-weaker}
use Rattle.rn_finder.proofs.first.least.Goals as goal

pub returns-clause-least : goal.returns-clause-least
returns-clause-least c =
    IfOk-weaker c.first_at.result _ _
    (λ found first. least_of_all c.args.system.now c.args.table.now.marking c.args.depth found first)
    c.first_at.ensures

pub returns-clause-none : goal.returns-clause-none
returns-clause-none c =
    IfOk-weaker c.first_at.result _ _
    (λ found first. none_of_all c.args.system.now c.args.table.now.marking c.args.depth found first)
    c.first_at.ensures
