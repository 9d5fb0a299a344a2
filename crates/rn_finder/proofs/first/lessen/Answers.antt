use Rattle.std.proofs.Common.{◌∙◌, sym, ap, refl}
use Rattle.rn_search.specs.Sought.{Sought}
use Rattle.rn_finder.proofs.LesserBindings.{first_where_none}
use Rattle.rn_finder.proofs.first.lessen.Goals as goal

pub find_lesser-requires-clause-system : goal.find_lesser-requires-clause-system
find_lesser-requires-clause-system c =
    c.requires.system ∙ sym (ap (λ (p : Sought). p.system) c.loop-turn.invariant.0)

pub returns-in-None-clause-first : goal.returns-in-None-clause-first
returns-in-None-clause-first c = λ yes.
    first_where_none c.loop-turn.lesser.sought c.loop-turn.lesser.than c.loop-turn.invariant.1
    ((rw c.in-None.is at c.in_ok-found.ensures.none).0 refl)
