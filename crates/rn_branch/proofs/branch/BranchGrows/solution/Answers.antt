-- By the binding that is made.
use Rattle.std.proofs.Common.{◌∙◌}
use Rattle.rn_branch.proofs.BranchSteps.{branch_inside, ends_inside, none_made, none_passes}
use Rattle.rn_branch.proofs.BranchSteps.{this_passes}
use Rattle.rn_branch.proofs.branch.BranchGrows.solution.Goals as goal

pub binding_of-requires-clause-branch : goal.binding_of-requires-clause-branch
binding_of-requires-clause-branch c =
    branch_inside c.args.problem.now c.growing.result.now c.args.self.now
    (c.growing.ensures ∙ c.self.view_is) c.requires.stands

pub binding_of-requires-clause-ends : goal.binding_of-requires-clause-ends
binding_of-requires-clause-ends c =
    ends_inside c.args.problem.now c.growing.result.now c.args.self.now
    (c.growing.ensures ∙ c.self.view_is) c.requires.stands c.requires.ends

pub returns-in_default : goal.returns-in_default
returns-in_default c =
    none_made c.args.problem.now c.growing.result.now c.args.self.now
    (c.growing.ensures ∙ c.self.view_is) c.requires.stands c.requires.ends
    (rw c.in_default.is at c.in_ok-binding.ensures.none)

pub returns-then-not-branch : goal.returns-then-not-branch
returns-then-not-branch c =
    none_passes c.args.problem.now c.growing.result.now c.args.self.now
    (c.growing.ensures ∙ c.self.view_is) c.requires.stands c.requires.ends
    c.system-system.ensures.good c.in-Some.binding (rw c.in-Some.is at c.in_ok-binding.ensures.made)
    c.in_ok-is_enabled.field-0 c.in_ok-is_enabled.ensures c.if-not-branch.true

pub returns : goal.returns
returns c =
    this_passes c.args.problem.now c.growing.result.now c.args.self.now
    (c.growing.ensures ∙ c.self.view_is) c.requires.stands c.requires.ends
    c.system-system.ensures.good c.in-Some.binding (rw c.in-Some.is at c.in_ok-binding.ensures.made)
    c.in_ok-is_enabled.field-0 c.in_ok-is_enabled.ensures c.if-not-branch.false c.known.result c.known.ensures
