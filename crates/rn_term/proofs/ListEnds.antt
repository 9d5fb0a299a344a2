-- Lists with one more element at the end, element by element.
use Rattle.std.proofs.Common.{◌≡◌, ◌≢◌, ⊎_elim, ◌<◌, ◌+◌, ℕ, zero, suc, List, [], ◌∷◌}
use Rattle.std.proofs.Common.{◌++◌, refl, arith, length}
use Rattle.std.proofs.Common.{sym, subst, true, false, get_or, take, eqb}
use Rattle.std.proofs.Common.{length-append}
use Rattle.std.specs.Prelude.{Option, None}
use Rattle.std.proofs.lemmas.Bool.Decides.{eqb_tells}
use Rattle.std.proofs.lemmas.List.{take-append-le, get_or_append_left}
use Rattle.std.proofs.Math.Seq.{take-append_seam, get_or-append_seam}

-- what holds of each element and of one more holds of each with that one at the end
pub at_end : {A : Type 0} (d : A) (P : ℕ → A → Type 0) (xs : List A) (x : A) →
    ((k : ℕ) → k < length xs → P k (get_or xs k d)) → P (length xs) x →
    (k : ℕ) → k < length (xs ++ x ∷ []) → P k (get_or (xs ++ x ∷ []) k d)
at_end {A} d P xs x all last k within = ⊎_elim same other (eqb_tells k (length xs)) where
  same : (eqb k (length xs) ≡ true) × (k ≡ length xs) → P k (get_or (xs ++ x ∷ []) k d)
  same e =
      subst (λ i. P i (get_or (xs ++ x ∷ []) i d)) (sym e.1)
      (subst (λ y. P (length xs) y) (sym (get_or-append_seam xs x [] d)) last)

  other : (eqb k (length xs) ≡ false) × (k ≢ length xs) → P k (get_or (xs ++ x ∷ []) k d)
  other e =
      let long : length (xs ++ x ∷ []) ≡ length xs + 1 = length-append xs (x ∷ []) in
      let small : k < length xs = omega (arith, e.1, within, long) in
      subst (λ y. P k y) (sym (get_or_append_left xs (x ∷ []) d k small)) (all k small)

-- the same of each element with those before it
pub after_prefix : {A : Type 0} (d : A) (P : List A → A → Type 0) (xs : List A) (x : A) →
    ((k : ℕ) → k < length xs → P (take k xs) (get_or xs k d)) → P xs x →
    (k : ℕ) → k < length (xs ++ x ∷ []) →
    P (take k (xs ++ x ∷ [])) (get_or (xs ++ x ∷ []) k d)
after_prefix {A} d P xs x all last =
    at_end d (λ k y. P (take k (xs ++ x ∷ [])) y) xs x
    (λ k small. subst (λ prefix. P prefix (get_or xs k d))
    (sym (take-append-le k xs (x ∷ []) (omega (arith, small)))) (all k small))
    (subst (λ prefix. P prefix x) (sym (take-append_seam xs (x ∷ []))) last)

-- no link at the end is what stands past the end
pub none_at_end : {A : Type 0} (xs : List (Option A)) (k : ℕ) →
    get_or (xs ++ None ∷ []) k None ≡ get_or xs k None
none_at_end [] zero = refl
none_at_end [] (suc k) = refl
none_at_end (x ∷ xs) zero = refl
none_at_end (x ∷ xs) (suc k) = none_at_end xs k
