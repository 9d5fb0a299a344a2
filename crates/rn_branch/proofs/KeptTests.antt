-- Tests that are kept hold as decisions come and go.
use Rattle.std.proofs.Common.{◌≡◌, ℕ, ◌≤◌, Bool, true, false, [], ◌∷◌, length, take}
use Rattle.std.proofs.Common.{refl, sym, ap, ◌∙◌, subst, arith, length-append, ◌⊎◌, inl, inr}
use Rattle.std.specs.Prelude.{Option, Some, None, All, slice_get}
use Rattle.std.proofs.lemmas.List.{length-take-le, take-append-le, take-take, take_all}
use Rattle.rn_growing.specs.declared.decision.Head.{Head}
use Rattle.rn_growing.specs.declared.decision.Caller.{Caller}
use Rattle.rn_growing.specs.declared.decision.Decision.{Decision}
use Rattle.rn_growing.specs.declared.decision.Decision.TheVariants.{Entered}
use Rattle.rn_growing.specs.Grown.{Grown, Tries, first_decisions, with_decision}
use Rattle.rn_growing.proofs.Growth.{some_equal}
use Rattle.rn_search.specs.Points.{node_on}
use Rattle.rn_branch.specs.declared.testing.Tests.{Tests}
use Rattle.rn_branch.specs.Testing.{AreKept, AreTests, IsTest, RestOn}

-- They rest on the first decisions alone.
same_front : (g other : Grown) (tests : Tests) → AreTests g tests → g.system ≡ other.system →
    take tests.count g.decisions ≡ take tests.count other.decisions →
    tests.count ≤ length other.decisions → AreTests other tests
same_front g other tests are system front within = record {
  within = within;
  each = λ head caller at.
      subst (λ s. All (IsTest (record {
        system = s;
        decisions = take tests.count other.decisions;
      }) head tests.var) tests.tests.items) system
      (subst (λ ds. All (IsTest (record { system = g.system; decisions = ds }) head tests.var)
      tests.tests.items) front
      (are.each head caller
      (subst (λ ds. slice_get ds tests.node ≡ Some (Entered head caller)) (sym front) at)));
}

pub kept_by_more : (g : Grown) (d : Decision) (kept : Option Tests) → AreKept g kept →
    AreKept (with_decision g d) kept
kept_by_more g d None are = are
kept_by_more g d (Some tests) are =
    let within = are.within in
    same_front g (with_decision g d) tests are refl
    (sym (take-append-le tests.count g.decisions (d ∷ []) within))
    (omega (arith, within, length-append g.decisions (d ∷ [])))

pub kept_by_tries : (old new : Grown) (d : Decision) (kept : Option Tests) (yes : Bool) →
    AreKept old kept → Tries old d new yes → AreKept new kept
kept_by_tries old new d kept true are tries =
    subst (λ g. AreKept g kept) (sym tries.0) (kept_by_more old d kept are)
kept_by_tries old new d kept false are tries = subst (λ g. AreKept g kept) (sym tries.0) are

pub kept_by_fewer : (g : Grown) (n : ℕ) (kept : Option Tests) → n ≤ length g.decisions →
    AreKept g kept → RestOn kept n → AreKept (first_decisions n g) kept
kept_by_fewer g n None within are rest = are
kept_by_fewer g n (Some tests) within are rest =
    same_front g (first_decisions n g) tests are refl
    (sym (take-take tests.count n g.decisions rest))
    (omega (arith, rest, length-take-le n g.decisions within))

pub kept_or_none : (g : Grown) (kept next : Option Tests) → AreKept g kept →
    (next ≡ kept) ⊎ (next ≡ None) → AreKept g next
kept_or_none g kept next are (inl same) = subst (AreKept g) (sym same) are
kept_or_none g kept next are (inr none) = subst (AreKept g) (sym none) tt

-- the tests of a node by all decisions
module _ (g : Grown) (tests : Tests) (all : tests.count ≡ length g.decisions) (head : Head)
    (caller : Option Caller)
    (at : slice_get g.decisions tests.node ≡ Some (Entered head caller)) where
  front : take tests.count g.decisions ≡ g.decisions
  front = take_all tests.count g.decisions (omega (arith, all))

  pub are_tests : All (IsTest g head tests.var) tests.tests.items → AreTests g tests
  are_tests are = record {
    within = omega (arith, all);
    each = λ other from there.
        let same : head ≡ other = ap node_on (some_equal (Entered head caller) (Entered other from)
        (sym at ∙ subst (λ ds. slice_get ds tests.node ≡ Some (Entered other from)) front there)) in
        subst (λ h. All (IsTest (first_decisions tests.count g) h tests.var) tests.tests.items)
        same
        (subst (λ ds. All (IsTest (record { system = g.system; decisions = ds }) head tests.var)
        tests.tests.items) (sym front) are);
  }

  pub are_its_tests : AreTests g tests → All (IsTest g head tests.var) tests.tests.items
  are_its_tests are =
      subst (λ ds. All (IsTest (record { system = g.system; decisions = ds }) head tests.var)
      tests.tests.items) front
      (are.each head caller
      (subst (λ ds. slice_get ds tests.node ≡ Some (Entered head caller)) (sym front) at))
