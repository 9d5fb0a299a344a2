-- By the tokens that lack a part.
use Rattle.std.proofs.Common.{◌≡◌, ◌∙◌, ap, sym, subst, arith}
use Rattle.std.proofs.lemmas.Bool.Decides.{nat_tests}
use Rattle.rn_search.specs.declared.point.Point.TheVariants as P
use Rattle.rn_branch.specs.Finders.{IsFinder}
use Rattle.rn_branch.specs.Offers.{NoneLeadBy}
use Rattle.rn_branch.proofs.LackingParts.{lacking_is_vain}
use Rattle.rn_branch.proofs.vain.lacking_at.Goals as goal

pub returns-in-Some : goal.returns-in-Some
returns-in-Some c a from below =
    let p = c.args.problem.now in
    let g = c.args.growing.now in
    let at = c.in-Token-default-default-eq0 in
    let first : at.field-2 ≡ 0 = grind (arith, nat_tests, at.field-2-test) in
    subst (λ q. NoneLeadBy p g.decisions q a)
    (sym (at.is ∙ ap (P.Token at.node at.k) first))
    (lacking_is_vain p g c.requires at.node at.k a c.in-Some.finder
    (subst (λ ds. IsFinder p ds at.node at.k c.in-Some.finder) c.decisions.ensures
    c.in-Some.ensures)
    (c.lacking.ensures a from below))
