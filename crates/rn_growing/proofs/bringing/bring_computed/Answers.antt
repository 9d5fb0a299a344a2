use Rattle.std.proofs.Common.{◌≡◌, ap, sym, ◌∙◌, subst}
use Rattle.std.specs.Prelude.{Some, ◌↔◌}
use Rattle.std.proofs.lemmas.Option.{same_Some}
use Rattle.rn_model.specs.Derivation.{Assignment}
use Rattle.rn_growing.specs.Decisions.{site_of}
use Rattle.rn_growing.specs.link.Laid.{Builds}
use Rattle.rn_growing.proofs.BringingSteps.{then_gets_answer}
use Rattle.rn_growing.proofs.bringing.bring_computed.Goals as goal

pub returns-clause-brings : goal.returns-clause-brings
returns-clause-brings c =
    let hole : Builds c.args.laid.now
    (λ a. Some (a.hole c.args.head.now.path (site_of c.args.site) c.args.way.now))
    c.build_hole.new.laid c.in_ok-hole.hole =
    subst (λ w. Builds c.args.laid.now
    (λ a. Some (a.hole c.args.head.now.path (site_of c.args.site) w)) c.build_hole.new.laid
    c.in_ok-hole.hole) c.as_slice.ensures c.in_ok-hole.ensures.built in
    let is : (a : Assignment) →
    (Some (a.hole c.args.head.now.path (site_of c.args.site) c.args.way.now) ≡ Some
    c.in_ok-worth.worth) ↔
    (a.hole c.args.head.now.path (site_of c.args.site) c.args.way.now ≡ c.args.value.now) =
    λ a. (
      λ e. same_Some _ _ e ∙ c.in_ok-worth.ensures,
      λ e. ap Some e
          ∙ ap Some (sym c.in_ok-worth.ensures),
    ) in
    then_gets_answer c.give.result c.args.laid.now c.build_hole.new.laid c.give.new.laid
    (λ a. Some (a.hole c.args.head.now.path (site_of c.args.site) c.args.way.now))
    c.in_ok-hole.hole c.in_ok-worth.worth
    (λ a. a.hole c.args.head.now.path (site_of c.args.site) c.args.way.now ≡ c.args.value.now)
    hole c.build_hole.ensures.grows is c.give.ensures.gets
