-- By the kinds of its values.
use Rattle.std.proofs.Common.{sym, subst}
use Rattle.rn_model.specs.Bindings.{env_of}
use Rattle.rn_agree.specs.link.Agreeing.{IsFitAt}
use Rattle.rn_agree.proofs.FitNodes.{fit_node}
use Rattle.rn_agree.proofs.inscriptions.node_holds.Goals as goal

pub inscriptions_hold-requires : goal.inscriptions_hold-requires
inscriptions_hold-requires c =
    let system = c.args.system.now in
    let node = c.args.node.now in
    let fit = fit_node system node c.requires.good c.requires.readable
    (c.have_own_kinds.ensures.0 c.if-not-have_own_kinds.false) in
    let there = subst (λ env. IsFitAt env c.transition_of-transition.result.now)
    (sym c.new-values.ensures)
    (subst (IsFitAt (env_of system node)) (sym c.transition_of-transition.ensures) fit) in
    record { fit = there }
