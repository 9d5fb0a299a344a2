-- Two lists, each of whose elements are related place by place.
use Rattle.std.proofs.Common.{◌≡◌, ℕ, zero, suc, ◌+◌, ◌<◌, true, false, List, [], ◌∷◌, ◌++◌}
use Rattle.std.proofs.Common.{length, take, get_or, refl, sym, ap, ◌∙◌, subst, arith}
use Rattle.std.specs.Prelude.{Some, Contains, zip, nat_eq, slice_get}
use Rattle.std.specs.List.{AllZip}
use Rattle.std.proofs.lemmas.Bool.{eqb-true, eq-eqb, true≢false}
use Rattle.std.proofs.lemmas.List.{take_more}
use Rattle.rn_model.specs.Lists.{value_beside}
use Rattle.rn_model.proofs.AskedValues.{later}
use Rattle.rn_model.proofs.EnablingLemmas.{not_in_nil}
use Rattle.rn_growing.proofs.Growth.{some_equal}

module _ {A B : Type 0} (R : A → B → Type 0) where
  -- related lists stay so with one more element each, where these are related
  pub zip_last : (xs : List A) (ys : List B) (x : A) (y : B) → AllZip R xs ys → R x y →
      AllZip R (xs ++ x ∷ []) (ys ++ y ∷ [])
  zip_last [] [] x y all is = (is, tt)
  zip_last [] (z ∷ ys) x y all is = absurd all
  zip_last (w ∷ xs) [] x y all is = absurd all
  zip_last (w ∷ xs) (z ∷ ys) x y all is = (all.0, zip_last xs ys x y all.1 is)

  -- and so they do as the first one is gone through
  pub zip_more : (xs : List A) (ys : List B) (i : ℕ) (x : A) (y : B) → i < length xs →
      x ≡ get_or xs i x → AllZip R (take i xs) ys → R x y →
      AllZip R (take (i + 1) xs) (ys ++ y ∷ [])
  zip_more xs ys i x y within at all is =
      subst (λ l. AllZip R l (ys ++ y ∷ []))
      (ap (λ z. take i xs ++ z ∷ []) at ∙ sym (take_more xs i x within))
      (zip_last (take i xs) ys x y all is)

  -- related lists are equally long
  pub zip_lengths : (xs : List A) (ys : List B) → AllZip R xs ys → length ys ≡ length xs
  zip_lengths [] [] all = refl
  zip_lengths [] (y ∷ ys) all = absurd all
  zip_lengths (x ∷ xs) [] all = absurd all
  zip_lengths (x ∷ xs) (y ∷ ys) all = ap suc (zip_lengths xs ys all.1)

  -- those at one index, and the first ones
  pub zip_at : (xs : List A) (ys : List B) (k : ℕ) (x : A) (y : B) → AllZip R xs ys →
      slice_get xs k ≡ Some x → slice_get ys k ≡ Some y → R x y
  zip_at [] ys k x y all at other = absurd (let no : ⊥ = cc in no)
  zip_at (w ∷ xs) [] k x y all at other = absurd all
  zip_at (w ∷ xs) (z ∷ ys) zero x y all at other =
      subst (λ v. R v y) (some_equal w x at) (subst (R w) (some_equal z y other) all.0)
  zip_at (w ∷ xs) (z ∷ ys) (suc k) x y all at other = zip_at xs ys k x y all.1 at other

  -- the first so many of each are related
  pub zip_take : (n : ℕ) (xs : List A) (ys : List B) → AllZip R xs ys →
      AllZip R (take n xs) (take n ys)
  zip_take zero xs ys all = tt
  zip_take (suc n) [] [] all = tt
  zip_take (suc n) [] (y ∷ ys) all = absurd all
  zip_take (suc n) (x ∷ xs) [] all = absurd all
  zip_take (suc n) (x ∷ xs) (y ∷ ys) all = (all.0, zip_take n xs ys all.1)

  -- each element of the first list is related to one of the second
  pub zip_right : (xs : List A) (ys : List B) (x : A) → AllZip R xs ys → Contains xs x →
      (y : B) × Contains ys y × R x y
  zip_right [] ys x all there = absurd (not_in_nil x there)
  zip_right (w ∷ xs) [] x all there = absurd all
  zip_right (w ∷ xs) (y ∷ ys) x all (zero, h, e) =
      (y, (0, omega arith, refl), subst (λ z. R z y) e all.0)
  zip_right (w ∷ xs) (y ∷ ys) x all (suc k, h, e) =
      let rest = zip_right xs ys x all.1 (k, omega (arith, h), e) in
      (rest.0, later y rest.0 ys rest.1, rest.2)

  -- and each of the second to one of the first
  pub zip_left : (xs : List A) (ys : List B) (y : B) → AllZip R xs ys → Contains ys y →
      (x : A) × Contains xs x × R x y
  zip_left xs [] y all there = absurd (not_in_nil y there)
  zip_left [] (z ∷ ys) y all there = absurd all
  zip_left (x ∷ xs) (z ∷ ys) y all (zero, h, e) =
      (x, (0, omega arith, refl), subst (R x) e all.0)
  zip_left (x ∷ xs) (z ∷ ys) y all (suc k, h, e) =
      let rest = zip_left xs ys y all.1 (k, omega (arith, h), e) in
      (rest.0, later x rest.0 xs rest.1, rest.2)

-- what stands beside a number of a list
not_first : (w x : ℕ) (xs : List ℕ) → Contains (w ∷ xs) x → nat_eq w x ≡ false → Contains xs x
not_first w x xs (zero, h, e) differs =
    let same : nat_eq x x ≡ false = subst (λ z. nat_eq z x ≡ false) e differs in
    absurd (true≢false (sym (eq-eqb x x refl) ∙ same))
not_first w x xs (suc k, h, e) differs = (k, omega (arith, h), e)

module _ {B : Type 0} (R : ℕ → B → Type 0) where
  abbrev HasBeside : List ℕ → List B → ℕ → Type 0
  HasBeside xs ys x = (y : B) × (value_beside (zip xs ys) x ≡ Some y) × R x y

  -- beside each number of the first stands one that is related to it
  pub zip_beside : (xs : List ℕ) (ys : List B) (x : ℕ) → AllZip R xs ys → Contains xs x →
      (y : B) × (value_beside (zip xs ys) x ≡ Some y) × R x y
  zip_beside [] ys x all there = absurd (not_in_nil x there)
  zip_beside (w ∷ xs) [] x all there = absurd all
  zip_beside (w ∷ xs) (y ∷ ys) x all there =
      elim (nat_eq w x) as (λ b. nat_eq w x ≡ b → HasBeside (w ∷ xs) (y ∷ ys) x) [
        | true ↦ λ is. (y, rw is refl, subst (λ z. R z y) (eqb-true w x is) all.0)
        | false ↦ λ is.
            let rest = zip_beside xs ys x all.1 (not_first w x xs there is) in
            (rest.0, rw is rest.1, rest.2)
      ] refl
