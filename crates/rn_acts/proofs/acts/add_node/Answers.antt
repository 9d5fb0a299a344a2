-- By the kinds of its values, before and after its actions.
use Rattle.std.proofs.Common.{◌≡◌, ◌∙◌, ap, sym, subst}
use Rattle.std.specs.Prelude.{All, Some}
use Rattle.rn_model.specs.Firing.{acts_before, after_actions}
use Rattle.rn_model.specs.Systems.{transition_of}
use Rattle.rn_arcs.specs.FitInscriptions.{IsFitArc}
use Rattle.rn_acts.specs.link.Acting.{AreFitActions, acts_of, env_acting, if_done}
use Rattle.rn_acts.proofs.FitNodes.{fit_before, fit_after}
use Rattle.rn_acts.proofs.acts.add_node.Goals as goal

pub take_all-requires : goal.take_all-requires
take_all-requires c =
    let system = c.args.system.now in
    let node = c.args.node.now in
    let are = c.as_slice.ensures ∙ ap (λ t. t.actions) c.transition_of-transition.ensures in
    let fit = subst (AreFitActions c.as_slice.result.now) (sym c.new-acting.ensures)
    (subst (λ l. AreFitActions l (acts_before system c.args.step node)) (sym are)
    (fit_before system node c.requires.good c.requires.own c.requires.kinds c.args.step)) in
    record { fit = fit }

pub put_outputs-requires : goal.put_outputs-requires
put_outputs-requires c =
    let system = c.args.system.now in
    let node = c.args.node.now in
    let actions = (transition_of system node).actions in
    let after = acts_of c.take_all.new.self in
    let are = c.as_slice.ensures ∙ ap (λ t. t.actions) c.transition_of-transition.ensures in
    let came : after_actions actions (acts_before system c.args.step node) ≡ Some after =
    sym (ap (λ l. after_actions l (acts_of c.new-acting.result)) are
    ∙ ap (after_actions actions) c.new-acting.ensures)
    ∙ c.in_ok-take_all.ensures ∙ ap (λ done. if_done done after) c.if-not-branch.false in
    let fit = subst (λ t. All (IsFitArc after.env) t.arcs) (sym c.transition_of-transition.ensures)
    (fit_after system node c.requires.good c.requires.own c.requires.kinds c.args.step after came) in
    record { fit = fit }
