-- What the search finds is the least binding, or that there is none.
use Rattle.std.proofs.Common.{List, ℕ, subst, sym}
use Rattle.std.specs.Prelude.{MatchOption, ⊤}
use Rattle.rn_model.specs.Markings.{Marking}
use Rattle.rn_firsts.specs.Known.{ComesAfter, IsKnown}
use Rattle.rn_least_workers.proofs.LeastSeen.{least_both}
use Rattle.rn_least_workers.proofs.considering.find_at.Goals as goal

pub look-requires-clause-changed : goal.look-requires-clause-changed
look-requires-clause-changed c =
    let its = subst
    (λ o. MatchOption o ⊤ (λ d. (before : Marking)
    × IsKnown c.args.task.system.now before c.args.task.options.now.depth c.args.firsts.now
    × ComesAfter c.args.task.system.now d.items before c.args.view.now.sight.table.marking))
    c.in-Some.is c.requires.follows in (
      its.0,
      its.1,
      subst (λ (ns : List ℕ). ComesAfter c.args.task.system.now ns its.0
          c.args.view.now.sight.table.marking) (sym c.as_slice.ensures.value) its.2,
    )

pub returns-in-Some-clause-least : goal.returns-in-Some-clause-least
returns-in-Some-clause-least c =
    least_both c.args.task.system.now c.args.task.options.now.depth c.args.view.now.sight.table.marking c.look.result
    c.look.ensures.least c.look.ensures.none

pub returns-in-None-clause-least : goal.returns-in-None-clause-least
returns-in-None-clause-least c =
    least_both c.args.task.system.now c.args.task.options.now.depth c.args.view.now.sight.table.marking
    c.look-in-None.result c.look-in-None.ensures.least c.look-in-None.ensures.none
