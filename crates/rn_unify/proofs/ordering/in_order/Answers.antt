use Rattle.std.proofs.Common.{reverse, sym, subst}
use Rattle.std.proofs.lemmas.List.{reverse-reverse}
use Rattle.std.specs.List.{AllByRecursion}
use Rattle.rn_unify.specs.declared.equation.Equation.{Equation}
use Rattle.rn_unify.specs.link.Equations.{GivesOther}
use Rattle.rn_unify.proofs.Findings.{all_reversed}
use Rattle.rn_unify.proofs.ordering.in_order.Goals as goal

pub returns-then-leads_back-clause-same : goal.returns-then-leads_back-clause-same
returns-then-leads_back-clause-same c vs =
    let P = λ (e : Equation). GivesOther vs e.var e.other in
    let es = c.args.equations.items in (
      λ all. subst (AllByRecursion P) (sym c.reverse.ensures.items) (all_reversed P es all),
      λ all.
          subst (AllByRecursion P) (reverse-reverse es)
          (all_reversed P (reverse es) (subst (AllByRecursion P) c.reverse.ensures.items all)),
    )
