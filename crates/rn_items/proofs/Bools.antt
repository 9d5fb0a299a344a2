-- Conjunctions and disjunctions of tests.
use Rattle.std.proofs.Common.{◌≡◌, Bool, true, false, ◌&&◌, ◌||◌, refl}
use Rattle.std.specs.Prelude.{◌⊎◌}
use Rattle.std.proofs.lemmas.Bool.{false≢true}
use mathlib.Core.Logic.{inl, inr}

-- where a conjunction is true both of its tests are
pub both_true : (a b : Bool) → (a && b) ≡ true → (a ≡ true) × (b ≡ true)
both_true true b e = (refl, e)
both_true false b e = absurd (false≢true e)

-- so its first test is
pub and_left : (a b : Bool) → (a && b) ≡ true → a ≡ true
and_left a b e = (both_true a b e).0

-- and its second one is
pub and_right : (a b : Bool) → (a && b) ≡ true → b ≡ true
and_right a b e = (both_true a b e).1

-- where two tests are true their conjunction is
pub true_both : (a b : Bool) → a ≡ true → b ≡ true → (a && b) ≡ true
true_both a b e f = rw (e, f) refl

-- where a disjunction is true one of its tests is
pub or_true : (a b : Bool) → (a || b) ≡ true → (a ≡ true) ⊎ (b ≡ true)
or_true true b e = inl refl
or_true false b e = inr e

-- where its first test is true a disjunction is
pub or_left : (a b : Bool) → a ≡ true → (a || b) ≡ true
or_left a b e = rw e refl

-- and so it is where its second one is
pub or_right : (a b : Bool) → b ≡ true → (a || b) ≡ true
or_right true b e = refl
or_right false b e = e
