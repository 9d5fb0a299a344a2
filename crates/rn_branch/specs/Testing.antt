-- Guards that are known but for one variable, which an arc's token would be.
use Rattle.std.specs.Prelude.{ℕ, ◌≡◌, ◌≤◌, List, ◌∷◌, Option, Some, None, slice_get, take}
use Rattle.std.specs.Prelude.{length, Contains, All}
use Rattle.rn_value.specs.declared.value.Value.{Value}
use Rattle.rn_model.specs.declared.expr.Cond.{Cond}
use Rattle.rn_model.specs.Evaluation.{IsTrueUnder}
use Rattle.rn_growing.specs.declared.decision.Head.{Head}
use Rattle.rn_growing.specs.declared.decision.Caller.{Caller}
use Rattle.rn_growing.specs.declared.decision.Decision.TheVariants.{Entered}
use Rattle.rn_growing.specs.Decisions.{transition_in}
use Rattle.rn_growing.specs.Grown.{Grown, first_decisions}
use Rattle.rn_branch.specs.declared.offer.Offer.{Offer}
use Rattle.rn_branch.specs.declared.testing.Test.{Test}
use Rattle.rn_branch.specs.declared.testing.Tests.{Tests}
use Rattle.rn_looking.specs.Guards.{vars_of_guard}
use Rattle.rn_looking.specs.Knowing.{AreOthersOf}

-- a test is of a guard of a node, which is known but for a variable
abbrev pub IsTest : Grown → Head → ℕ → Test → Type 0
IsTest g head x test = (guard : Cond) →
    slice_get (transition_in g.system head).guards test.guard ≡ Some guard →
    AreOthersOf g head.path x (vars_of_guard guard) test.others.items

-- So are all of these, by the first decisions.
pub record AreTests (g : Grown) (tests : Tests) : Type 0 where
  pub within : tests.count ≤ length g.decisions
  pub each : (head : Head) (caller : Option Caller) →
      slice_get (take tests.count g.decisions) tests.node ≡ Some (Entered head caller) →
      All (IsTest (first_decisions tests.count g) head tests.var) tests.tests.items

-- what is kept of tests holds
abbrev pub AreKept : Grown → Option Tests → Type 0
AreKept g None = Unit
AreKept g (Some tests) = AreTests g tests

-- what is kept of tests rests on no more than so many decisions
abbrev pub RestOn : Option Tests → ℕ → Type 0
RestOn None n = Unit
RestOn (Some tests) n = tests.count ≤ n

-- A guard isn't true where its variable is the token.
pub record FailsGuard (g : Grown) (o : Offer) (x : ℕ) : Type 0 where
  pub guard : Cond
  pub there : Contains o.transition.now.guards guard
  pub others : List (ℕ × Value)
  pub known : AreOthersOf g o.head.now.path x (vars_of_guard guard) others
  pub untrue : ¬ IsTrueUnder (record {
    this = o.head.now.inst;
    step = None;
    pairs = (x, o.token.now) ∷ others;
  }) guard
