-- By the net and the transition.
use Rattle.std.proofs.Common.{◌∙◌, ap}
use Rattle.rn_agree.proofs.AgreeLemmas.{own_kinds}
use Rattle.rn_agree.proofs.inscriptions.have_own_kinds.Goals as goal

pub returns : goal.returns
returns c =
    own_kinds c.args.system.now c.args.node.now c.net_at-net.result.now c.as_slice.result.now
    c.as_slice-2.result.now c.have_kinds.result c.net_at-net.ensures
    (c.as_slice.ensures ∙ ap (λ t. t.vars) c.transition_of-transition.ensures)
    c.as_slice-2.ensures c.have_kinds.ensures
