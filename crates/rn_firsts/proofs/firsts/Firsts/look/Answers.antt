use Rattle.std.proofs.lemmas.Result.{IfOk-weaker}
use Rattle.rn_finder.proofs.FirstBindings.{least_of_all, none_of_all}
use Rattle.rn_firsts.proofs.firsts.Firsts.look.Goals as goal

pub first-requires-clause-known : goal.first-requires-clause-known
first-requires-clause-known c =
    c.turn_to.ensures c.args.system.now c.args.depth c.requires.changed

pub returns-clause-least : goal.returns-clause-least
returns-clause-least c =
    IfOk-weaker c.first.result _ _
    (λ found first. least_of_all c.args.system.now c.args.table.now.marking c.args.depth found first)
    c.first.ensures.first

pub returns-clause-none : goal.returns-clause-none
returns-clause-none c =
    IfOk-weaker c.first.result _ _
    (λ found first. none_of_all c.args.system.now c.args.table.now.marking c.args.depth found first)
    c.first.ensures.first
