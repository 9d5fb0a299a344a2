-- As they are kept.
use Rattle.std.proofs.Common.{subst, sym}
use Rattle.rn_growing.specs.Grown.{Grown}
use Rattle.rn_looking.specs.Applying.{AreAppliedIn}
use Rattle.rn_branch.proofs.settling.Settling.applications.Goals as goal

pub returns : goal.returns
returns c =
    subst (λ (g : Grown). AreAppliedIn g.system g.decisions c.as_slice.result.now) c.self.view_is
    (subst (AreAppliedIn c.self.inside.growing.system c.self.inside.growing.decisions)
    (sym c.as_slice.ensures.value) c.self.invariant.1.applied)
