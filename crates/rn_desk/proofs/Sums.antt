-- Sums over the elements of a list, when one of them changes.
use Rattle.std.proofs.Common.{◌≡◌, ◌≢◌, ℕ, zero, suc, ◌+◌, ◌≤◌, List, [], ◌∷◌, ◌++◌, set, sym, refl, ap, arith}
use mathlib.Core.Option.{some, some-injective, some-ne-none}
use lib.ListN.{get_elem?}
use Rattle.rn_desk.specs.Turns.{total}

module _ {A : Type 0} where
  pub total-set : (f : A → ℕ) (xs : List A) (i : ℕ) (v w : A) → get_elem? xs i ≡ some v → total f (set xs i w) + f v ≡ total f xs + f w
  total-set f [] i v w e = absurd (some-ne-none v (sym e))
  total-set f (x ∷ xs) zero v w e = let same : f x ≡ f v = ap f (some-injective x v e) in omega arith
  total-set f (x ∷ xs) (suc i) v w e = let r = total-set f xs i v w e in omega arith

  pub total-set_same : (f : A → ℕ) (xs : List A) (i : ℕ) (v w : A) → get_elem? xs i ≡ some v → f w ≡ f v → total f (set xs i w) ≡ total f xs
  total-set_same f xs i v w e s = let t = total-set f xs i v w e in omega arith

  pub total-append : (f : A → ℕ) (xs ys : List A) → total f (xs ++ ys) ≡ total f xs + total f ys
  total-append f [] ys = omega arith
  total-append f (x ∷ xs) ys = let r = total-append f xs ys in omega arith

  pub total_push : (f : A → ℕ) (xs : List A) (x : A) → total f (xs ++ x ∷ []) ≡ total f xs + f x
  total_push f xs x = let t = total-append f xs (x ∷ []) in omega arith

  pub total_mono : (f g : A → ℕ) → ((x : A) → f x ≤ g x) → (xs : List A) → total f xs ≤ total g xs
  total_mono f g le [] = omega arith
  total_mono f g le (x ∷ xs) = let a = le x in let r = total_mono f g le xs in omega arith

  -- one element is part of the sum
  pub total_at : (f : A → ℕ) (xs : List A) (i : ℕ) (v : A) → get_elem? xs i ≡ some v → f v ≤ total f xs
  total_at f [] i v e = absurd (some-ne-none v (sym e))
  total_at f (x ∷ xs) zero v e = let same : f x ≡ f v = ap f (some-injective x v e) in omega arith
  total_at f (x ∷ xs) (suc i) v e = let r = total_at f xs i v e in omega arith

  -- and so are two
  pub total_two : (f : A → ℕ) (xs : List A) (i j : ℕ) (v w : A) → get_elem? xs i ≡ some v → get_elem? xs j ≡ some w → i ≢ j → f v + f w ≤ total f xs
  total_two f [] i j v w e e' n = absurd (some-ne-none v (sym e))
  total_two f (x ∷ xs) zero zero v w e e' n = absurd (n refl)
  total_two f (x ∷ xs) zero (suc j) v w e e' n = let same : f x ≡ f v = ap f (some-injective x v e) in let r = total_at f xs j w e' in omega arith
  total_two f (x ∷ xs) (suc i) zero v w e e' n = let same : f x ≡ f w = ap f (some-injective x w e') in let r = total_at f xs i v e in omega arith
  total_two f (x ∷ xs) (suc i) (suc j) v w e e' n = let r = total_two f xs i j v w e e' (λ h. n (ap suc h)) in omega arith
