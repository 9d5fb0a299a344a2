-- By what is known of the token, and the tokens of the place.
use Rattle.std.proofs.Common.{◌≡◌, subst}
use Rattle.std.specs.Prelude.{Some, IfSome}
use Rattle.rn_search.specs.Points.{first_token, node_of, tokens_of}
use Rattle.rn_looking.specs.Knowing.{IsKnownValue}
use Rattle.rn_looking.proofs.InhibitorLooks.{held_is_stuck}
use Rattle.rn_looking.proofs.KindedNodes.{inscription_kinded}
use Rattle.rn_looking.proofs.inhibitors.test_arc.Goals as goal

pub returns-in-Some-only_token : goal.returns-in-Some-only_token
returns-in-Some-only_token c told =
    held_is_stuck c.args.at.problem.now c.args.at.growing.now c.args.at.node c.args.at.head.now
    c.args.at.transition.now c.requires.at c.args.k c.arc_at-arc.result.now c.in-Some.value
    c.in-Some-only_token.field-0 c.arc_at-arc.ensures
    (c.is_inhibitor.ensures.0 c.if-not-is_inhibitor.false)
    (subst (λ o. IfSome o (λ v. IsKnownValue c.args.at.growing.now c.args.at.head.now
    c.arc_at-arc.result.now.inscription v)) c.in-Some.is c.in_ok-value.ensures.value)
    (subst (λ ds. first_token (tokens_of c.args.at.problem.now (node_of c.args.at.problem.now ds
    c.args.at.node) c.args.k) c.in-Some-only_token.field-0 ≡ Some c.in-Some.value)
    c.decisions-decisions.ensures c.in-Some-only_token.ensures.first)

pub known_value-requires : goal.known_value-requires
known_value-requires c = record {
  kinds = inscription_kinded c.args.at.problem.now c.args.at.growing.now c.args.at.node
      c.args.at.head.now c.args.at.transition.now c.requires.at c.args.k c.arc_at-arc.result.now
      c.arc_at-arc.ensures;
}
