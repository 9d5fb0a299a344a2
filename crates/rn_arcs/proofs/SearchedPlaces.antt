-- What a search finds among places that rise.
use Rattle.std.proofs.Common.{◌≡◌, ℕ, ◌<◌, ◌≤◌, false, List, [], ◌∷◌, length, get_or, sym, ap}
use Rattle.std.proofs.Common.{subst, inl, inr, arith}
use Rattle.std.specs.Prelude.{◌⊎◌, Ok, Err, Result}
use Rattle.std.specs.List.{HoldsAt}
use Rattle.std.specs.List.Sorted.{IsPartitionPoint, IsNonDecreasingBy, IsSearchInRange}
use Rattle.std.specs.List.Sorted.{IsBinarySearchResult}
use Rattle.std.specs.Ordering.{is_eq, ordering_index}
use Rattle.std.specs.declared.cmp.Ordering.{Ordering}
use Rattle.std.specs.declared.cmp.Ordering.TheVariants.{Less, Equal, Greater}
use Rattle.std.proofs.lemmas.Bool.{cases_lt}
use Rattle.std.proofs.lemmas.List.Elements.{All-contains, All-from_recursion, recursion_from_All}
use Rattle.std.proofs.lemmas.List.Sorted.{searchable_from_sorted}
use Rattle.rn_arcs.specs.link.Joining.{Rising}
use Rattle.rn_arcs.specs.Places.{InstPlace, place_cmp, is_at}
use Rattle.rn_arcs.proofs.PlaceOrder.{place_total, same_place}
use Rattle.rn_arcs.proofs.RisingPlaces.{those_at, none_at, each_one, rising_is_sorted}

module _ {G : Type 0} (place : G → InstPlace) (k : InstPlace) (gs : List G)
    (r : Rising place gs) where
  abbrev order : G → Ordering
  order g = place_cmp (place g) k

  found : (i : ℕ) (g : G) → i < length gs → g ≡ get_or gs i g →
      HoldsAt (λ y. order y ≡ Equal) gs i → those_at place k gs ≡ g ∷ []
  found i g low is here =
      let same : place g ≡ k =
      same_place k (place g) (ap is_eq (subst (λ h. order h ≡ Equal) (sym is) (here g))) in
      let alone : those_at place (place g) gs ≡ g ∷ [] =
      All-contains (λ h. those_at place (place h) gs ≡ h ∷ []) gs g
      (All-from_recursion (λ h. those_at place (place h) gs ≡ h ∷ []) gs (each_one place gs r))
      (i, low, sym is) in
      subst (λ l. those_at place l gs ≡ g ∷ []) same alone

  beside : (i j : ℕ) (d : G) → j < length gs →
      IsPartitionPoint (λ y. order y ≡ Less) (λ y. order y ≡ Greater) gs i →
      (j < i) ⊎ (i ≤ j) → is_at k (place (get_or gs j d)) ≡ false
  beside i j d low parted (inl before) = ap is_eq (parted.0 j d (omega arith) before)
  beside i j d low parted (inr after) = ap is_eq (parted.1 j d after low)

  not_found : (i : ℕ) →
      IsPartitionPoint (λ y. order y ≡ Less) (λ y. order y ≡ Greater) gs i →
      those_at place k gs ≡ []
  not_found i parted =
      none_at place k gs
      (recursion_from_All (λ g. is_at k (place g) ≡ false) gs
      (λ j d low. beside i j d low parted (cases_lt j i)))

  rises : IsNonDecreasingBy (λ y. ordering_index (order y)) gs
  rises = searchable_from_sorted place_total place gs k (rising_is_sorted place gs r)

  -- an answer with an index has the only one of the place there
  pub at_found : (o : Result ℕ ℕ) (i : ℕ) (g : G) → o ≡ Ok i → IsSearchInRange o (length gs) →
      IsBinarySearchResult order gs o → g ≡ get_or gs i g → those_at place k gs ≡ g ∷ []
  at_found o i g e range at is =
      found i g (subst (λ o. IsSearchInRange o (length gs)) e range) is
      (subst (λ o. IsBinarySearchResult order gs o) e at)

  -- an answer without one has none of it
  pub at_none : (o : Result ℕ ℕ) (i : ℕ) → o ≡ Err i → IsBinarySearchResult order gs o →
      those_at place k gs ≡ []
  at_none o i e at = not_found i (subst (λ o. IsBinarySearchResult order gs o) e at rises)
