use Rattle.std.proofs.Common.{subst, sym}
use Rattle.rn_search.specs.Allowing.{Allows}
use Rattle.rn_finder.proofs.straight.go_straight.Goals as goal

pub push-requires-clause-allows : goal.push-requires-clause-allows
push-requires-clause-allows c =
    let says = rw c.in-Forced.is at c.in_ok-next.ensures.says in
    subst (λ ds. Allows c.args.problem.now ds c.in-Forced.site 0) (sym c.in_ok-next.ensures.same)
    says.0
