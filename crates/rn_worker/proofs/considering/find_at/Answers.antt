-- What the view says of changes is told to the searcher.
use Rattle.rn_firsts.specs.Resting.{KnowsIdle}
use Rattle.rn_worker.proofs.LaterViews.{follows_lent}
use Rattle.rn_worker.proofs.considering.find_at.Goals as goal

pub find_while-requires-clause-changed : goal.find_while-requires-clause-changed
find_while-requires-clause-changed c =
    follows_lent c.args.task.system.now
    (λ m. KnowsIdle c.args.task.system.now m c.args.task.options.now.depth c.args.searcher.now.idle)
    c.args.view.now.sight.table.marking (λ l. l.now) (λ v. v.items) c.changed_in-changed.result
    c.args.view.now.changed c.changed_in-changed.ensures c.requires.follows

pub find_while-requires-2-clause-changed : goal.find_while-requires-2-clause-changed
find_while-requires-2-clause-changed c =
    follows_lent c.args.task.system.now
    (λ m. KnowsIdle c.args.task.system.now m c.args.task.options.now.depth c.args.searcher.now.idle)
    c.args.view.now.sight.table.marking (λ l. l.now) (λ v. v.items) c.changed_in-changed.result
    c.args.view.now.changed c.changed_in-changed.ensures c.requires.follows
