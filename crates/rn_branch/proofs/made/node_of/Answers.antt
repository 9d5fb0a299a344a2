-- The parts of the node, copied.
use Rattle.std.proofs.Common.{◌≡◌, ◌∙◌, refl, rules, subst}
use Rattle.std.specs.Prelude.{All}
use Rattle.rn_looking.specs.Forced.{IsVarForcedIn}
use Rattle.rn_branch.specs.Making.{AreValues}
use Rattle.rn_branch.proofs.MadeSteps.{node_free, node_made}
use Rattle.rn_branch.proofs.made.node_of.Goals as goal

pub returns-in_default : goal.returns-in_default
returns-in_default c =
    node_free c.args.growing.now c.args.system.now c.args.head.now
    c.transition_in-transition.result.now c.as_slice-vars.result.now c.requires.same
    c.transition_in-transition.ensures c.as_slice-vars.ensures
    (subst (λ p. ¬ All (IsVarForcedIn c.args.growing.now p) c.as_slice-vars.result.now)
    (c.as_slice.ensures ∙ c.deref.ensures) (rw c.in_default.is at c.in_ok-values.ensures))

pub returns : goal.returns
returns c =
    let path : c.from_vec-path.result ≡ c.args.head.now.path = search rules in
    let named : record {
      path = c.from_vec-path.result;
      inst = c.in_ok-inst.inst;
      net = c.args.head.now.net;
      transition = c.args.head.now.transition;
    } ≡ c.args.head.now =
    rw (path, c.in_ok-inst.ensures) refl in
    node_made c.args.growing.now c.args.system.now c.args.head.now c.args.head.now
    c.transition_in-transition.result.now c.as_slice-vars.result.now c.in-Some.values.items _
    c.requires.same c.transition_in-transition.ensures c.as_slice-vars.ensures
    refl named c.from_vec.ensures
    (subst (λ p. AreValues c.args.growing.now p c.as_slice-vars.result.now c.in-Some.values.items)
    (c.as_slice.ensures ∙ c.deref.ensures) (rw c.in-Some.is at c.in_ok-values.ensures))
