-- The token that is known to be found, or one of several.
use Rattle.std.proofs.Common.{◌∙◌, ap, sym, subst}
use Rattle.std.specs.Prelude.{IfSome}
use Rattle.std.proofs.lemmas.Option.{slice_get_within}
use Rattle.rn_model.specs.declared.system.NetArc.{NetArc}
use Rattle.rn_growing.proofs.Growth.{some_equal}
use Rattle.rn_search.specs.declared.point.Point.TheVariants as P
use Rattle.rn_search.specs.Offering.{alternatives}
use Rattle.rn_looking.specs.Equating.{IsTokenOf}
use Rattle.rn_looking.specs.Knowing.{IsKnownFirst}
use Rattle.rn_looking.proofs.LookSteps.{goes_on_among}
use Rattle.rn_looking.proofs.TokenLooks.{chooses_token}
use Rattle.rn_looking.proofs.KindedNodes.{inscription_kinded, kinded_node}
use Rattle.rn_looking.proofs.arcs.look_for_token.Goals as goal

pub arc_at-arc-requires : goal.arc_at-arc-requires
arc_at-arc-requires c =
    slice_get_within c.args.at.transition.now.arcs c.args.k c.requires.token.arc
    c.requires.token.there

pub with_token-requires-clause-known : goal.with_token-requires-clause-known
with_token-requires-clause-known c x at =
    subst (λ (y : NetArc). IsTokenOf c.args.at.growing.now c.args.at.head.now
    c.args.at.transition.now y.inscription c.in-Some.told)
    (some_equal c.arc_at-arc.result.now x (sym c.arc_at-arc.ensures ∙ at))
    (subst (λ o. IfSome o (λ w. IsTokenOf c.args.at.growing.now c.args.at.head.now
    c.args.at.transition.now c.arc_at-arc.result.now.inscription w)) c.in-Some.is
    c.in_ok-told.ensures)

pub with_first-requires-clause-known : goal.with_first-requires-clause-known
with_first-requires-clause-known c x at =
    subst (λ (y : NetArc). IsKnownFirst c.args.at.growing.now c.args.at.head.now y.inscription
    c.in-Some-2.part)
    (some_equal c.arc_at-arc.result.now x (sym c.arc_at-arc.ensures ∙ at))
    (subst (λ o. IfSome o (λ v. IsKnownFirst c.args.at.growing.now c.args.at.head.now
    c.arc_at-arc.result.now.inscription v)) c.in-Some-2.is c.in_ok-part.ensures)

pub returns : goal.returns
returns c =
    let count = c.alternatives-of.ensures.count
    ∙ ap (λ ds. alternatives c.args.at.problem.now ds (P.Token c.args.at.node c.args.k 0))
    c.decisions.ensures in
    goes_on_among c.args.at.problem.now c.args.at.growing.now.decisions
    (P.Token c.args.at.node c.args.k 0) c.alternatives-of.result c.among.result
    (λ first. chooses_token c.args.at.problem.now c.args.at.growing.now c.args.at.node
    c.args.at.head.now c.args.at.transition.now c.requires.at c.args.k c.requires.token
    c.alternatives-of.result first count) c.among.ensures

pub known_token-requires-clause-node : goal.known_token-requires-clause-node
known_token-requires-clause-node c =
    kinded_node c.args.at.problem.now c.args.at.growing.now c.args.at.node
    c.args.at.head.now c.args.at.transition.now c.requires.at

pub known_token-requires-clause-kinds : goal.known_token-requires-clause-kinds
known_token-requires-clause-kinds c =
    inscription_kinded c.args.at.problem.now c.args.at.growing.now c.args.at.node
    c.args.at.head.now c.args.at.transition.now c.requires.at
    c.args.k c.arc_at-arc.result.now c.arc_at-arc.ensures

pub known_first_part-requires : goal.known_first_part-requires
known_first_part-requires c = record {
  kinds = inscription_kinded c.args.at.problem.now c.args.at.growing.now c.args.at.node
      c.args.at.head.now c.args.at.transition.now c.requires.at c.args.k c.arc_at-arc.result.now
      c.arc_at-arc.ensures;
}
