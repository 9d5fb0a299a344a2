-- A transition has the variables that `with_vars` gives it.
use Rattle.std.proofs.Common.{◌≡◌, ℕ, zero, suc, ◌+◌, ◌<◌, ◌≤◌, Bool, true, false, ◌&&◌, ◌||◌, not}
use Rattle.std.proofs.Common.{List}
use Rattle.std.proofs.Common.{[], ◌∷◌, ◌++◌, map, refl, sym, ap, ◌∙◌, subst, arith, inl}
use Rattle.std.proofs.Common.{inr}
use Rattle.std.specs.Prelude.{Contains, filter, nat_eq, flat_map, if◌then◌else◌, slice_index}
use Rattle.std.specs.List.{AllByRecursion, range_with_len}
use Rattle.std.specs.List.Sorted.{IsStrictlyIncreasing}
use Rattle.std.proofs.lemmas.Bool.{eqb-true, eq-eqb, not-true}
use Rattle.std.proofs.lemmas.Bool.Decides.{nat_tests}
use Rattle.std.proofs.lemmas.List.FromFn.{length-range_with_len}
use Rattle.std.proofs.lemmas.List.Kept.{IsStrictlyIncreasing-filter}
use Rattle.rn_items.proofs.Bools.{both_true, true_both, or_true, or_left, or_right}
use Rattle.rn_model.specs.declared.system.Transition.{Transition}
use Rattle.rn_model.specs.Systems.{vars_in}
use Rattle.rn_model.specs.Good.{HasItsVars, occurring, set_var, all_exprs}
use Rattle.rn_model.proofs.AskedValues.{later}
use Rattle.rn_occurring.specs.TransitionVars.{is_among, with_vars}

pub among_there : (xs : List ℕ) (x : ℕ) → is_among xs x ≡ true → Contains xs x
among_there [] x e = absurd (let no : ⊥ = cc in no)
among_there (y ∷ ys) x e =
    elim (or_true (nat_eq x y) (is_among ys x) e) [
      | inl here ↦ (0, omega arith, sym (eqb-true x y here))
      | inr there ↦ later y x ys (among_there ys x there)
    ]

pub there_among : (xs : List ℕ) (x : ℕ) → Contains xs x → is_among xs x ≡ true
there_among [] x (k, h, e) = absurd (omega (arith, h))
there_among (y ∷ ys) x (zero, h, e) =
    or_left (nat_eq x y) (is_among ys x) (eq-eqb x y (sym e))
there_among (y ∷ ys) x (suc k, h, e) =
    or_right (nat_eq x y) (is_among ys x) (there_among ys x (k, omega (arith, h), e))

kept : (p : ℕ → Bool) (y x : ℕ) (ys : List ℕ) (b : Bool) → p y ≡ b → p x ≡ true →
    is_among (y ∷ ys) x ≡ true → (is_among ys x ≡ true → is_among (filter p ys) x ≡ true) →
    is_among (if b then y ∷ filter p ys else filter p ys) x ≡ true
kept p y x ys true is px e go =
    elim (or_true (nat_eq x y) (is_among ys x) e) [
      | inl here ↦ or_left (nat_eq x y) (is_among (filter p ys) x) here
      | inr there ↦ or_right (nat_eq x y) (is_among (filter p ys) x) (go there)
    ]
kept p y x ys false is px e go =
    elim (or_true (nat_eq x y) (is_among ys x) e) [
      | inl here ↦
          let same : x ≡ y = eqb-true x y here in
          absurd (let no : true ≡ false = sym px ∙ ap p same ∙ is in let no : ⊥ = cc in no)
      | inr there ↦ go there
    ]

in_filter : (p : ℕ → Bool) (xs : List ℕ) (x : ℕ) → is_among xs x ≡ true → p x ≡ true →
    is_among (filter p xs) x ≡ true
in_filter p [] x e px = absurd (let no : ⊥ = cc in no)
in_filter p (y ∷ ys) x e px =
    kept p y x ys (p y) refl px e (λ there. in_filter p ys x there px)

passed : (p : ℕ → Bool) (y x : ℕ) (ys : List ℕ) (b : Bool) → p y ≡ b →
    is_among (if b then y ∷ filter p ys else filter p ys) x ≡ true →
    (is_among (filter p ys) x ≡ true → p x ≡ true) → p x ≡ true
passed p y x ys true is e go =
    elim (or_true (nat_eq x y) (is_among (filter p ys) x) e) [
      | inl here ↦ ap p (eqb-true x y here) ∙ is
      | inr there ↦ go there
    ]
passed p y x ys false is e go = go e

from_filter : (p : ℕ → Bool) (xs : List ℕ) (x : ℕ) → is_among (filter p xs) x ≡ true → p x ≡ true
from_filter p [] x e = absurd (let no : ⊥ = cc in no)
from_filter p (y ∷ ys) x e = passed p y x ys (p y) refl e (from_filter p ys x)

in_range : (a n x : ℕ) → a ≤ x → x < a + n → is_among (range_with_len a n) x ≡ true
in_range a zero x low high = absurd (omega (arith, low, high))
in_range a (suc n) x low high = by (nat_eq x a) refl
    (λ low. in_range (a + 1) n x low (omega (arith, high)))
  where
    by : (b : Bool) → nat_eq x a ≡ b →
        (a + 1 ≤ x → is_among (range_with_len (a + 1) n) x ≡ true) →
        (nat_eq x a || is_among (range_with_len (a + 1) n) x) ≡ true
    by true is go = or_left (nat_eq x a) (is_among (range_with_len (a + 1) n) x) is
    by false is go =
        or_right (nat_eq x a) (is_among (range_with_len (a + 1) n) x)
        (go (grind (arith, nat_tests)))

at_range : (a n k : ℕ) → k < n → slice_index (range_with_len a n) k ≡ a + k
at_range a zero k h = absurd (omega (arith, h))
at_range a (suc n) zero h = omega arith
at_range a (suc n) (suc k) h =
    let rest = at_range (a + 1) n k (omega (arith, h)) in
    let same : a + 1 + k ≡ a + suc k = omega arith in rest ∙ same

range_rises : (n : ℕ) → IsStrictlyIncreasing (range_with_len 0 n)
range_rises n = λ k h.
    let len = length-range_with_len 0 n in
    let one = at_range 0 n k (omega (arith, h, len)) in
    let two = at_range 0 n (k + 1) (omega (arith, h, len)) in
    omega (arith, one, two)

each_below : (count : ℕ) (xs : List ℕ) (x : ℕ) → AllByRecursion (λ x. x < count) xs →
    is_among xs x ≡ true → x < count
each_below count [] x all e = absurd (let no : ⊥ = cc in no)
each_below count (y ∷ ys) x all e =
    elim (or_true (nat_eq x y) (is_among ys x) e) [
      | inl here ↦ subst (λ z. z < count) (sym (eqb-true x y here)) all.0
      | inr there ↦ each_below count ys x all.1 there
    ]

pub among_right : (xs ys : List ℕ) (x : ℕ) → is_among ys x ≡ true → is_among (xs ++ ys) x ≡ true
among_right [] ys x e = e
among_right (z ∷ xs) ys x e =
    or_right (nat_eq x z) (is_among (xs ++ ys) x) (among_right xs ys x e)

not_among : (b : Bool) → (b ≡ true → ⊥) → not b ≡ true
not_among true never = absurd (never refl)
not_among false never = refl

module _ (count : ℕ) (t : Transition) (below : AllByRecursion (λ x. x < count) (occurring t)) where
  abbrev acted : List ℕ
  acted = flat_map set_var t.actions

  abbrev stays : ℕ → Bool
  stays x = is_among (occurring t) x && not (is_among acted x)

  listed : (x : ℕ) → is_among (occurring t) x ≡ true → is_among (range_with_len 0 count) x ≡ true
  listed x e =
      let low = each_below count (occurring t) x below e in
      in_range 0 count x (omega arith) (omega (arith, low))

  -- the action variables are those on the left of actions
  pub acts : (x : ℕ) → is_among (with_vars count t).action_vars x ≡ true → is_among acted x ≡ true
  acts x e = from_filter (is_among acted) (range_with_len 0 count) x e

  acted_there : (x : ℕ) → is_among acted x ≡ true →
      is_among (with_vars count t).action_vars x ≡ true
  acted_there x e =
      in_filter (is_among acted) (range_with_len 0 count) x
      (listed x (among_right (flat_map vars_in (all_exprs t) ++ map (λ c. c.var) t.creations)
      acted x e))
      e

  pub has_its_vars : HasItsVars (with_vars count t)
  has_its_vars = record {
    ascending = IsStrictlyIncreasing-filter stays (range_with_len 0 count) (range_rises count);
    vars = λ x. (
      λ there.
          let both = both_true (is_among (occurring t) x) (not (is_among acted x))
          (from_filter stays (range_with_len 0 count) x (there_among _ x there)) in (
            among_there (occurring t) x both.0,
            λ acts_there.
                let no : true ≡ false =
                sym (acts x (there_among _ x acts_there)) ∙ not-true (is_among acted x) both.1 in
                let no : ⊥ = cc in no,
          ),
      λ occurs.
          let here = there_among (occurring t) x occurs.0 in
          among_there _ x (in_filter stays (range_with_len 0 count) x (listed x here)
          (true_both (is_among (occurring t) x) (not (is_among acted x)) here
          (not_among (is_among acted x) (λ e. occurs.1 (among_there _ x (acted_there x e)))))),
    );
    actions_ascending =
        IsStrictlyIncreasing-filter (is_among acted) (range_with_len 0 count) (range_rises count);
    action_vars = λ x. (
      λ there. among_there acted x (acts x (there_among _ x there)),
      λ there. among_there _ x (acted_there x (there_among acted x there)),
    );
  }
