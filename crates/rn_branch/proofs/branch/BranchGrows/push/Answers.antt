-- By the decision that the alternative means.
use Rattle.std.proofs.Common.{◌∙◌, sym, subst}
use Rattle.std.specs.Prelude.{Ok}
use Rattle.rn_growing.specs.Grown.{Grown}
use Rattle.rn_search.specs.Allowing.{Allows}
use Rattle.rn_branch.specs.Takings.{AreTakings}
use Rattle.rn_branch.specs.Testing.{AreKept}
use Rattle.rn_branch.proofs.Applied.{applied_outside}
use Rattle.rn_branch.proofs.BranchSteps.{push_comes, push_fresh, push_heads, push_is, push_kept}
use Rattle.rn_branch.proofs.BranchSteps.{push_never, push_none, push_room, push_stands}
use Rattle.rn_branch.proofs.KeptTakings.{takings_by_tries}
use Rattle.rn_branch.proofs.KeptTests.{kept_by_tries}
use Rattle.rn_branch.proofs.branch.BranchGrows.push.Goals as goal

pub is_vain-requires-clause-allows : goal.is_vain-requires-clause-allows
is_vain-requires-clause-allows c =
    subst (λ (g : Grown). Allows c.args.problem.now g.decisions c.args.site c.args.alternative)
    (sym (c.growing.ensures ∙ c.self.view_is)) c.requires.allows

pub decision_at-requires-clause-heads : goal.decision_at-requires-clause-heads
decision_at-requires-clause-heads c =
    push_heads c.args.problem.now c.self.inside.growing c.args.self.now c.self.view_is
    c.requires.stands c.decisions-decisions.result.now c.decisions-decisions.ensures
    c.start-start.ensures.starts

pub decision_at-requires-clause-applied : goal.decision_at-requires-clause-applied
decision_at-requires-clause-applied c =
    applied_outside c.args.problem.now c.self.inside.growing c.args.self.now
    c.decisions-decisions.result.now c.applications-applications.result.now c.self.view_is
    c.requires.stands c.decisions-decisions.ensures c.applications-applications.ensures

pub decide-requires-clause-may_come : goal.decide-requires-clause-may_come
decide-requires-clause-may_come c =
    push_comes c.args.problem.now c.self.inside.growing c.args.self.now c.self.view_is
    c.requires.stands c.decisions-decisions.result.now c.decisions-decisions.ensures
    c.start-start.ensures.starts c.args.site c.args.alternative
    c.requires.allows _ c.in_ok-decision.ensures c.in-Some.decision c.in-Some.is

pub decide-requires-clause-fresh : goal.decide-requires-clause-fresh
decide-requires-clause-fresh c =
    push_fresh c.args.problem.now c.self.inside.growing c.args.self.now c.self.view_is
    c.requires.stands c.decisions-decisions.result.now c.decisions-decisions.ensures
    c.start-start.ensures.starts c.args.site c.args.alternative
    c.requires.allows _ c.in_ok-decision.ensures c.in-Some.decision c.in-Some.is

pub returns-in_ok-made-in-Some-clause-stands : goal.returns-in_ok-made-in-Some-clause-stands
returns-in_ok-made-in-Some-clause-stands c =
    push_stands c.args.problem.now c.self.inside.growing c.args.self.now c.self.view_is
    c.requires.stands c.decisions-decisions.result.now c.decisions-decisions.ensures
    c.start-start.ensures.starts c.args.site c.args.alternative
    c.requires.allows _ c.in_ok-decision.ensures c.in-Some.decision c.in-Some.is
    {E = Unit} (Ok c.in_ok-made-in-Some.made) c.decide.new.self
    c.in_ok-made-in-Some.ensures.tries

pub returns-in_ok-made-in-Some-clause-pushed : goal.returns-in_ok-made-in-Some-clause-pushed
returns-in_ok-made-in-Some-clause-pushed c =
    push_is c.args.problem.now c.self.inside.growing c.args.self.now c.self.view_is
    c.requires.stands c.decisions-decisions.result.now c.decisions-decisions.ensures
    c.start-start.ensures.starts c.args.site c.args.alternative
    c.requires.allows _ c.in_ok-decision.ensures c.in-Some.decision c.in-Some.is
    {E = Unit} (Ok c.in_ok-made-in-Some.made) c.decide.new.self
    c.in_ok-made-in-Some.ensures.tries

pub returns-in_ok-made-in-Some-clause-room : goal.returns-in_ok-made-in-Some-clause-room
returns-in_ok-made-in-Some-clause-room c =
    push_room c.args.problem.now c.self.inside.growing c.args.self.now c.self.view_is
    c.requires.stands c.decisions-decisions.result.now c.decisions-decisions.ensures
    c.start-start.ensures.starts c.args.site c.args.alternative
    c.requires.allows _ c.in_ok-decision.ensures c.in-Some.decision c.in-Some.is
    {E = Unit} (Ok c.in_ok-made-in-Some.made) c.decide.new.self
    c.in_ok-made-in-Some.ensures.tries

pub returns-in_ok-made-in-Some-clause-kept : goal.returns-in_ok-made-in-Some-clause-kept
returns-in_ok-made-in-Some-clause-kept c =
    push_kept c.args.problem.now c.self.inside.growing c.args.self.now c.self.view_is
    c.requires.stands c.decisions-decisions.result.now c.decisions-decisions.ensures
    c.start-start.ensures.starts c.args.site c.args.alternative
    c.requires.allows _ c.in_ok-decision.ensures c.in-Some.decision c.in-Some.is
    {E = Unit} (Ok c.in_ok-made-in-Some.made) c.decide.new.self
    c.in_ok-made-in-Some.ensures.tries

pub returns-in_ok-made-in-Some-clause-none : goal.returns-in_ok-made-in-Some-clause-none
returns-in_ok-made-in-Some-clause-none c =
    push_never c.args.problem.now c.self.inside.growing c.args.self.now c.self.view_is
    c.requires.stands c.decisions-decisions.result.now c.decisions-decisions.ensures
    c.start-start.ensures.starts c.args.site c.args.alternative
    c.requires.allows _ c.in_ok-decision.ensures c.in-Some.decision c.in-Some.is
    {E = Unit} (Ok c.in_ok-made-in-Some.made) c.decide.new.self
    c.in_ok-made-in-Some.ensures.tries

pub returns-in-None-clause-none : goal.returns-in-None-clause-none
returns-in-None-clause-none c = λ no.
    push_none c.args.problem.now c.self.inside.growing c.args.self.now c.self.view_is
    c.requires.stands c.decisions-decisions.result.now c.decisions-decisions.ensures
    c.start-start.ensures.starts c.args.site c.args.alternative
    c.requires.allows _ c.in_ok-decision.ensures c.in-None.is

pub invariant_of-self-in-Some : goal.invariant_of-self-in-Some
invariant_of-self-in-Some c =
    let g = c.self.inside.growing in
    let tests = c.take-tests.result in
    let takings = c.replace-takings.result in (
      kept_by_tries g c.decide.new.self c.in-Some.decision tests c.in_ok-made-in-Some.made
          (subst (AreKept g) (sym c.take-tests.ensures.value)
          (subst (λ h. AreKept h c.is_vain.new.kept) c.growing.ensures c.is_vain.ensures.kept))
          c.in_ok-made-in-Some.ensures.tries,
      takings_by_tries g c.decide.new.self c.in-Some.decision takings c.in_ok-made-in-Some.made
          (subst (AreTakings g.system g.decisions) (sym c.replace-takings.ensures.value)
          (subst (λ (h : Grown). AreTakings h.system h.decisions c.is_vain.new.takings)
          c.growing.ensures c.is_vain.ensures.takings)) c.in_ok-made-in-Some.ensures.tries,
    )
