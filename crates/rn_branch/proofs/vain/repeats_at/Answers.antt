-- By the alternatives that mean none.
use Rattle.std.proofs.Common.{◌≡◌, subst, sym}
use Rattle.std.specs.Prelude.{None}
use Rattle.rn_search.specs.Points.{offered}
use Rattle.rn_branch.proofs.Pushing.{none_offered}
use Rattle.rn_branch.proofs.vain.repeats_at.Goals as goal

pub returns-in-Token : goal.returns-in-Token
returns-in-Token c a from below =
    let p = c.args.problem.now in
    none_offered p c.args.growing.now c.requires c.args.site a
    (subst (λ ds. offered p ds c.args.site a ≡ None) c.decisions.ensures
    (subst (λ q. offered p c.decisions.result.now q a ≡ None) (sym c.in-Token.is)
    (c.repeats.ensures a from below)))
