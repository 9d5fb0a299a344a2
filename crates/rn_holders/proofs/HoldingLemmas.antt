-- Lists of holders that get more.
use Rattle.std.proofs.Common.{◌≡◌, ◌≢◌, ℕ, zero, suc, ◌<◌, ◌≤◌, true, List, [], ◌∷◌, ◌++◌, length, get_or, take}
use Rattle.std.proofs.Common.{refl, sym, ap, ◌∙◌, subst, arith, inl, inr, ⊎_elim, eq-eqb}
use Rattle.std.specs.Prelude.{◌⊎◌, ◌↔◌, Contains, nat_eq, slice_set, IsTrue}
use Rattle.std.specs.List.{list_any}
use Rattle.std.proofs.lemmas.List.{get_or-set_same, get_or-set_other, get_or_default, take_all}
use Rattle.std.proofs.lemmas.Bool.{eqb-true}
use Rattle.rn_model.proofs.LiveByRounds.{any_contained, contained_any}
use Rattle.rn_holders.specs.Holders.{KeepHolders, held_by}

-- what a list's test for a number says
pub contains_decides : (xs : List ℕ) (n : ℕ) → IsTrue (list_any (λ y. nat_eq y n) xs) ↔ Contains xs n
contains_decides xs n = (
  λ is. let same = any_contained (λ y. nat_eq y n) xs is in
      subst (Contains xs) (eqb-true same.0 n same.2) same.1,
  λ has. contained_any (λ y. nat_eq y n) xs n has (eq_itself n),
)
  where
    eq_itself : (n : ℕ) → nat_eq n n ≡ true
    eq_itself n = eq-eqb n n refl

-- an empty list at the end changes no holder
pub same_longer : (holders : List (List ℕ)) (n : ℕ) → held_by (holders ++ [] ∷ []) n ≡ held_by holders n
same_longer [] zero = refl
same_longer [] (suc n) = refl
same_longer (xs ∷ holders) zero = refl
same_longer (xs ∷ holders) (suc n) = same_longer holders n

same_or_not : (i j : ℕ) → (i ≡ j) ⊎ (i ≢ j)
same_or_not zero zero = inl refl
same_or_not zero (suc j) = inr (λ e. let no : ⊥ = omega (arith, e) in no)
same_or_not (suc i) zero = inr (λ e. let no : ⊥ = omega (arith, e) in no)
same_or_not (suc i) (suc j) = ⊎_elim
    (λ (same : i ≡ j). inl (ap suc same))
    (λ (not : i ≢ j). inr (λ e. not (omega (arith, e))))
    (same_or_not i j)

-- a list that lost no holder, in the place of the old one
module _ (holders : List (List ℕ)) (at : ℕ) (old : List ℕ) (within : at < length holders)
    (is : old ≡ get_or holders at old) where
  old_is : old ≡ get_or holders at []
  old_is = is ∙ get_or_default holders at old [] within

  pub kept_by : (new : List ℕ) → ((holder : ℕ) → Contains old holder → Contains new holder) →
      KeepHolders holders (slice_set holders at new)
  kept_by new stay holder n has = ⊎_elim
      (λ (same : n ≡ at).
      subst (λ xs. Contains xs holder)
      (sym (ap (λ k. get_or (slice_set holders at new) k []) same
      ∙ get_or-set_same holders at new [] within))
      (stay holder (subst (λ xs. Contains xs holder) (sym old_is)
      (subst (λ k. Contains (get_or holders k []) holder) same has))))
      (λ (not : n ≢ at).
      subst (λ xs. Contains xs holder) (sym (get_or-set_other holders at n new [] not)) has)
      (same_or_not n at)

  pub stands_by : (new : List ℕ) → held_by (slice_set holders at new) at ≡ new
  stands_by new = get_or-set_same holders at new [] within

-- where the lists were only lengthened before
pub keep_through : (first between after : List (List ℕ)) →
    ((n : ℕ) → held_by between n ≡ held_by first n) → KeepHolders between after →
    KeepHolders first after
keep_through first between after same keep holder n has =
    keep holder n (subst (λ xs. Contains xs holder) (sym (same n)) has)

pub keep_both : (first between after : List (List ℕ)) → KeepHolders first between →
    KeepHolders between after → KeepHolders first after
keep_both first between after one other holder n has = other holder n (one holder n has)

-- all of a list that was gone through
pub whole_list : (P : ℕ → Type 0) (xs : List ℕ) (i : ℕ) → length xs ≤ i →
    ((n : ℕ) → Contains (take i xs) n → P n) → (n : ℕ) → Contains xs n → P n
whole_list P xs i past each n has =
    each n (subst (λ ys. Contains ys n) (sym (take_all i xs past)) has)
