-- Guard by guard.
use Rattle.std.proofs.Common.{sym, subst, ap, ◌∙◌}
use Rattle.std.specs.Prelude.{All}
use Rattle.std.proofs.lemmas.List.Elements.{All-push}
use Rattle.rn_branch.specs.Testing.{IsTest}
use Rattle.rn_branch.proofs.testing.tests_of.Goals as goal
use Rattle.rn_branch.proofs.testing.tests_of.Goals.{in-Some+in_ok-push, in_default}

pub loop-k-preserved : goal.loop-k-preserved
loop-k-preserved c =
    let is_test = IsTest c.args.growing.now c.args.head.now c.args.var in
    elim c.match-branch-2.branch [
      | in-Some+in_ok-push w ↦
          subst (All is_test) (sym (ap (λ ts. ts.items) w.tests-is ∙ w.in_ok-push.ensures.items))
          (All-push is_test c.loop-k.tests.items w.in-Some.test c.loop-k.invariant
          (rw w.in-Some.is at c.in_ok-test.ensures))
      | in_default w ↦ subst (λ ts. All is_test ts.items) (sym w.tests-is) c.loop-k.invariant
    ]
