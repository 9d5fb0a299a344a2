-- By the tests that are kept.
use Rattle.std.proofs.Common.{◌≡◌, ◌∙◌, sym, subst}
use Rattle.std.specs.Prelude.{All, Some, slice_get}
use Rattle.rn_growing.specs.declared.decision.Decision.TheVariants.{Entered}
use Rattle.rn_branch.specs.Testing.{AreKept, IsTest}
use Rattle.rn_branch.proofs.KeptTests.{are_its_tests}
use Rattle.rn_branch.proofs.testing.fails_kept.Goals as goal

pub fails_one-requires-clause-tests : goal.fails_one-requires-clause-tests
fails_one-requires-clause-tests c =
    let g = c.args.growing.now in
    let head = c.args.offer.now.head.now in
    let tests = c.in-Some.tests in
    let told = c.if-not-are_of.false in
    subst (All (IsTest g head c.args.var)) (sym c.as_slice.ensures.value)
    (subst (λ x. All (IsTest g head x) tests.tests.items) (c.are_of.ensures.var told)
    (are_its_tests g tests (c.are_of.ensures.count told ∙ c.mark.ensures) head
    c.requires.entered.0
    (subst (λ n. slice_get g.decisions n ≡ Some (Entered head c.requires.entered.0))
    (sym (c.are_of.ensures.node told)) c.requires.entered.1)
    (subst (AreKept g) c.in-Some.is c.requires.kept)))
