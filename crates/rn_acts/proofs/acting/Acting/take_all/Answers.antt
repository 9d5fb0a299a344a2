-- Action by action.
use Rattle.std.proofs.Common.{◌≡◌, ◌∷◌, ◌+◌, ◌∙◌, ap, sym, subst, drop}
use Rattle.std.specs.Prelude.{Some}
use Rattle.std.proofs.lemmas.List.{drop_more}
use Rattle.rn_model.specs.Firing.{after_actions}
use Rattle.rn_acts.specs.link.Acting.{AreFitActions, action_of, acts_of, if_done}
use Rattle.rn_acts.proofs.ActLemmas.{one_action}
use Rattle.rn_acts.proofs.acting.Acting.take_all.Goals as goal

pub take-requires : goal.take-requires
take-requires c =
    let i = c.loop-action.action-index in
    let actions = c.args.actions.now in
    let others = drop (i + 1) actions in
    let action = c.action-item.result in
    let here : drop i actions ≡ action ∷ others =
    drop_more actions i action c.loop-action-test.true ∙ ap (λ a. a ∷ others) (sym c.action-item.is) in
    let fit = subst (λ l. AreFitActions l (acts_of c.loop-action.self)) here
    c.loop-action.invariant.1 in
    record { fit = fit.0 }

pub loop-action-preserved : goal.loop-action-preserved
loop-action-preserved c =
    let i = c.loop-action.action-index in
    let actions = c.args.actions.now in
    let others = drop (i + 1) actions in
    let action = c.action-item.result in
    let before = acts_of c.loop-action.self in
    let after = acts_of c.take.new.self in
    let here : drop i actions ≡ action ∷ others =
    drop_more actions i action c.loop-action-test.true ∙ ap (λ a. a ∷ others) (sym c.action-item.is) in
    let fit : AreFitActions (action ∷ others) before =
    subst (λ l. AreFitActions l before) here c.loop-action.invariant.1 in
    let came : action_of action before ≡ Some after =
    c.in_ok-take.ensures ∙ ap (λ done. if_done done after) c.if-not-branch.false in (
      sym (ap (λ l. after_actions l before) here ∙ one_action action others before after came)
          ∙ c.loop-action.invariant.0,
      fit.1 after came,
    )
