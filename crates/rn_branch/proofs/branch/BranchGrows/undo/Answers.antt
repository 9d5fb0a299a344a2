-- By the decisions that are left.
use Rattle.std.proofs.Common.{◌≤◌, length, sym, subst}
use Rattle.rn_growing.specs.Grown.{Grown}
use Rattle.rn_branch.specs.Takings.{AreTakings}
use Rattle.rn_branch.specs.Testing.{AreKept}
use Rattle.rn_branch.proofs.BranchSteps.{undo_is, undo_stands}
use Rattle.rn_branch.proofs.KeptTakings.{kept_of_front}
use Rattle.rn_branch.proofs.KeptTests.{kept_by_fewer, kept_or_none}
use Rattle.rn_branch.proofs.branch.BranchGrows.undo.Goals as goal

pub undo-requires : goal.undo-requires
undo-requires c =
    subst (λ g. c.args.count ≤ length g.decisions) (sym c.self.view_is) c.requires.within

pub returns-clause-stands : goal.returns-clause-stands
returns-clause-stands c =
    undo_stands c.args._problem.now c.self.inside.growing c.args.self.now c.self.view_is
    c.requires.stands c.args.count c.undo.new.self c.undo.ensures c.requires.within

pub returns-clause-taken_back : goal.returns-clause-taken_back
returns-clause-taken_back c =
    undo_is c.args._problem.now c.self.inside.growing c.args.self.now c.self.view_is
    c.requires.stands c.args.count c.undo.new.self c.undo.ensures

pub invariant_of-self : goal.invariant_of-self
invariant_of-self c =
    let g = c.self.inside.growing in
    let kept = c.forget_beyond.new.kept in
    let takings = c.truncate.new.self in
    let within = subst (λ h. c.args.count ≤ length h.decisions) (sym c.self.view_is)
    c.requires.within in (
      subst (λ (h : Grown). AreKept h kept) (sym c.undo.ensures)
          (kept_by_fewer g c.args.count kept within
          (kept_or_none g c.self.inside.tests kept c.self.invariant.0 c.forget_beyond.ensures.same)
          c.forget_beyond.ensures.rest),
      subst (λ (h : Grown). AreTakings h.system h.decisions takings) (sym c.undo.ensures)
          (kept_of_front g.system g.decisions c.self.inside.takings c.self.invariant.1 takings
          c.args.count c.truncate.ensures within),
    )
