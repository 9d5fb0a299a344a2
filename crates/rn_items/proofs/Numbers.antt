-- Lists of numbers, which a test compares one by one.
use Rattle.std.proofs.Common.{◌≡◌, ℕ, zero, suc, Bool, List, [], ◌∷◌, true, false, nat_eq, refl, sym, inl, inr, arith}
use Rattle.std.specs.Prelude.{◌⊎◌, Contains}
use Rattle.std.proofs.lemmas.Bool.{eqb-true, eq-eqb}
use Rattle.std.specs.Cmp.Lexicographic.{pointwise, same_text}

-- lists that the test takes as the same are equal
pub same_numbers : (p q : List ℕ) → pointwise nat_eq p q ≡ true → p ≡ q
same_numbers p q e = same_text p q (sym e)

-- each list is the same as itself by the test
pub numbers_themselves : (p : List ℕ) → pointwise nat_eq p p ≡ true
numbers_themselves [] = refl
numbers_themselves (n ∷ p) = rw (eq-eqb n n refl, numbers_themselves p) refl

-- a number is in a list or it isn't
pub in_or_not : (xs : List ℕ) (n : ℕ) → Contains xs n ⊎ (¬ Contains xs n)
in_or_not [] n = inr (λ (k, within, at). let no : ⊥ = omega (arith, within) in no)
in_or_not (x ∷ xs) n = by (nat_eq x n) refl (in_or_not xs n)
  where
    by : (same : Bool) → nat_eq x n ≡ same → Contains xs n ⊎ (¬ Contains xs n) →
        Contains (x ∷ xs) n ⊎ (¬ Contains (x ∷ xs) n)
    by true e rest = inl (zero, omega arith, eqb-true x n e)
    by false e (inl (k, within, at)) = inl (suc k, omega (arith, within), at)
    by false e (inr not) = inr out
      where
        out : ¬ Contains (x ∷ xs) n
        out (zero, within, at) =
            let same : nat_eq x n ≡ true = eq-eqb x n at in let no : ⊥ = cc in no
        out (suc k, within, at) = not (k, omega (arith, within), at)
