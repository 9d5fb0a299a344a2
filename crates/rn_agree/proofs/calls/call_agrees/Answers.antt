-- By the target and the arguments.
use Rattle.std.proofs.Common.{◌∙◌, ap, sym, subst}
use Rattle.std.proofs.lemmas.Result.{IfOk-weaker}
use Rattle.rn_model.specs.Systems.{uplink_args}
use Rattle.rn_calc.specs.link.NodeValues.{lent_env}
use Rattle.rn_agree.proofs.AgreeLemmas.{call_by_args}
use Rattle.std.specs.Prelude.{All}
use Rattle.rn_model.specs.Bindings.{env_of}
use Rattle.rn_model.specs.ExpressionLaws.{OperandsAreFit}
use Rattle.rn_agree.proofs.calls.call_agrees.Goals as goal

pub leads_to-requires : goal.leads_to-requires
leads_to-requires c =
    let fit = subst (λ env. OperandsAreFit env c.args.downlink.now.target)
    (sym c.new-values.ensures) c.requires.fit.target in
    record { fit = fit }

pub args_agree-requires-clause-fit : goal.args_agree-requires-clause-fit
args_agree-requires-clause-fit c =
    subst (λ env. All (OperandsAreFit env) c.as_slice.result.now) (sym c.new-values.ensures)
    (subst (All (OperandsAreFit (env_of c.args.system.now c.args.caller.now)))
    (sym c.as_slice.ensures) c.requires.fit.args)

pub args_agree-requires-clause-other_fit : goal.args_agree-requires-clause-other_fit
args_agree-requires-clause-other_fit c =
    subst (λ env. All (OperandsAreFit env) c.uplink_args-others.result.now)
    (sym c.new-other_values.ensures)
    (subst (All (OperandsAreFit (env_of c.args.system.now c.args.child.now)))
    (sym (c.uplink_args-others.ensures ∙ ap uplink_args c.transition_of.ensures))
    c.requires.child_fit.uplink)

pub returns : goal.returns
returns c =
    IfOk-weaker _ _ _ (λ agree decides.
    call_by_args c.args.system.now c.args.caller.now c.args.downlink.now c.args.child.now
    (lent_env c.new-values.result) (lent_env c.new-other_values.result) c.as_slice.result.now
    c.uplink_args-others.result.now agree c.new-values.ensures
    c.new-other_values.ensures c.as_slice.ensures
    (c.uplink_args-others.ensures ∙ ap uplink_args c.transition_of.ensures)
    (c.in_ok-leads_to.ensures.0 c.if-not-branch.false) decides) c.args_agree.ensures
