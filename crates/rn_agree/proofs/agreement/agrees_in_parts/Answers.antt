-- By the nodes and by the calls.
use Rattle.std.proofs.lemmas.Result.{IfOk-weaker}
use Rattle.rn_agree.proofs.PartsAgree.{decided_by_calls}
use Rattle.rn_agree.proofs.FitNodes.{fit_nodes}
use Rattle.rn_agree.proofs.agreement.agrees_in_parts.Goals as goal

pub all_calls_agree-requires-clause-fit : goal.all_calls_agree-requires-clause-fit
all_calls_agree-requires-clause-fit c =
    fit_nodes c.args.system.now c.args.binding.now.nodes c.requires.good c.requires.nodes
    (c.in_ok-nodes_hold.ensures.0 c.if-not-branch.false)

pub returns : goal.returns
returns c =
    IfOk-weaker _ _ _ (λ answer decides.
    decided_by_calls c.args.system.now c.args.binding.now answer
    (c.in_ok-nodes_hold.ensures.0 c.if-not-branch.false) decides) c.all_calls_agree.ensures
