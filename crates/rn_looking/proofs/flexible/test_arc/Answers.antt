-- By what is known of the list, and the tokens of the place.
use Rattle.std.proofs.Common.{sym, ◌∙◌, subst}
use Rattle.std.specs.Prelude.{IfSome}
use Rattle.std.proofs.lemmas.Bool.{false≢true}
use Rattle.rn_model.specs.Demands.{elements}
use Rattle.rn_model.specs.Lists.{IsWithin}
use Rattle.rn_model.specs.Markings.{tokens}
use Rattle.rn_looking.specs.Knowing.{IsKnownValue}
use Rattle.rn_looking.proofs.FlexibleLooks.{lacking_is_stuck}
use Rattle.rn_looking.proofs.KindedNodes.{inscription_kinded}
use Rattle.rn_looking.proofs.flexible.test_arc.Goals as goal

pub returns-else-branch : goal.returns-else-branch
returns-else-branch c told =
    let x = c.arc_at-arc.result.now in
    lacking_is_stuck c.args.at.problem.now c.args.at.growing.now c.args.at.node c.args.at.head.now
    c.args.at.transition.now c.requires.at c.args.k x c.in-Some.list c.arc_at-arc.ensures
    (c.is_flexible.ensures.0 c.if-not-is_flexible.false)
    (subst (λ o. IfSome o (λ v. IsKnownValue c.args.at.growing.now c.args.at.head.now x.inscription
    v)) c.in-Some.is c.in_ok-list.ensures.value)
    (λ within.
    false≢true (sym c.if-branch.false ∙ c.in_ok-holds_all.ensures.1
    (subst (λ vs. IsWithin vs (tokens c.table.result.now.marking c.args.at.head.now.inst x.place))
    (sym c.in_ok-values.ensures)
    (subst (λ m. IsWithin (elements c.in-Some.list) (tokens m c.args.at.head.now.inst x.place))
    (sym c.table.ensures.same) within))))

pub known_value-requires : goal.known_value-requires
known_value-requires c = record {
  kinds = inscription_kinded c.args.at.problem.now c.args.at.growing.now c.args.at.node
      c.args.at.head.now c.args.at.transition.now c.requires.at c.args.k c.arc_at-arc.result.now
      c.arc_at-arc.ensures;
}
