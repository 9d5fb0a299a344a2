-- What was settled stays so, and maybe more is.
use Rattle.std.proofs.Common.{length, sym, subst}
use Rattle.rn_looking.specs.Applying.{AreAppliedIn}
use Rattle.rn_looking.specs.Branches.{IsBranchOf}
use Rattle.rn_looking.specs.Looks.{Looked}
use Rattle.rn_looking.specs.Settling.{AreSettled}
use Rattle.rn_looking.specs.Things.{IsOfEntries}
use Rattle.rn_branch.proofs.Settled.{keeps_settled}
use Rattle.rn_branch.proofs.settling.Settling.look.Goals as goal

pub look_at_all-requires-clause-branch : goal.look_at_all-requires-clause-branch
look_at_all-requires-clause-branch c =
    subst (IsBranchOf c.args.problem.now) (sym c.self.view_is) c.requires

pub look_at_all-requires-clause-settled : goal.look_at_all-requires-clause-settled
look_at_all-requires-clause-settled c =
    subst (λ s. AreSettled s c.self.inside.growing.decisions c.self.inside.settled)
    (subst (IsBranchOf c.args.problem.now) (sym c.self.view_is) c.requires).system
    c.self.invariant.0.so_far

pub look_at_all-requires-clause-applied : goal.look_at_all-requires-clause-applied
look_at_all-requires-clause-applied c =
    subst (AreAppliedIn c.self.inside.growing.system c.self.inside.growing.decisions)
    (sym c.as_slice-applications.ensures.value) c.self.invariant.1.applied

pub invariant_of-self-in_err-looked : goal.invariant_of-self-in_err-looked
invariant_of-self-in_err-looked c = c.self.invariant

pub invariant_of-self-2 : goal.invariant_of-self-2
invariant_of-self-2 c = (
  keeps_settled c.self.inside.growing c.self.inside.settled c.in_ok-looked.looked.1
      c.self.inside.before.items c.self.invariant.0
      (subst (λ s. AreSettled s c.self.inside.growing.decisions c.in_ok-looked.looked.1)
      (sym (subst (IsBranchOf c.args.problem.now) (sym c.self.view_is) c.requires).system)
      c.in_ok-looked.ensures.1),
  c.self.invariant.1,
)

pub returns-clause-looked : goal.returns-clause-looked
returns-clause-looked c =
    subst (λ g. Looked c.args.problem.now g.decisions
    (IsOfEntries g.decisions (length g.decisions)) c.in_ok-looked.looked.0) c.self.view_is
    c.in_ok-looked.ensures.0
