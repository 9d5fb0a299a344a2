-- What one page becomes.
use Rattle.std.proofs.Common.{◌≡◌, ◌≢◌, ℕ, zero, suc, ◌<◌, Bool, true, false, cond, List, [], ◌∷◌, ◌++◌, append-nil, refl, sym, ap, ◌∙◌, subst, arith, inl, inr}
use Rattle.std.specs.Prelude.{filter, not, nat_eq, ◌⊎◌}
use Rattle.std.proofs.lemmas.Bool.{true≢false}
use Rattle.std.specs.List.{AllByRecursion}
use Rattle.rn_model.specs.Markings.{Instance}
use Rattle.rn_bag.specs.Words.{has_bit}
use Rattle.rn_table.specs.link.Leaves.{Leaf, HasSortedPlaces, IsLeaf, bit_of, has_number, held_if, kept_in, leaf_with, page_of, starting_of}
use Rattle.rn_table.specs.link.LeafSteps.{Grows, IsDropped, IsEdited, IsGrown, HoldsAfterStep}
use Rattle.rn_table.specs.link.Steps.{Step}
use Rattle.rn_table.proofs.DirLemmas.{held_some}
use Rattle.rn_table.proofs.EditedLemmas.{edited_kept, edited_leaf, edited_below}
use Rattle.rn_table.proofs.LeafLemmas.{grown, starts_more, more_starting, shrunk, starts_less, less_starting, none_kept, empty_leaf, no_bit}

-- how the word of those that may start comes of another
abbrev pub StartsAre : Bool → ℕ → ℕ → ℕ → Type 0
StartsAre starts s new_s b = ((starts ≡ true) × (has_bit new_s b ≡ true) × ((j : ℕ) → j ≢ b → has_bit new_s j ≡ has_bit s j)) ⊎ ((starts ≡ false) × (new_s ≡ s))

module _ (x : Instance) (starts : Bool) (h g : List Instance) (w s u new_s b : ℕ) (b_is : b ≡ bit_of x.number) (some : 0 < x.number) (x_sorted : HasSortedPlaces x) (is : IsLeaf (page_of x.number) (leaf_with h w s)) (last : AllByRecursion (λ i. i.number < x.number) (held_if w h))
    (there : has_bit u b ≡ true) (others : (j : ℕ) → j ≢ b → has_bit u j ≡ has_bit w j) (comes : Grows w x (held_if w h) g) where
  abbrev K : ℕ
  K = page_of x.number

  abbrev Old : Leaf
  Old = leaf_with h w s

  held_is : held_if u g ≡ g
  held_is = held_some u g (λ e. true≢false (sym there ∙ ap (λ v. has_bit v b) e ∙ no_bit b))

  among : StartsAre starts s new_s b → (bit : ℕ) → bit < 64 → has_bit new_s bit ≡ true → has_bit u bit ≡ true
  among (inl t) = starts_more Old (held_if w h) w s refl K u new_s b is there others t.2
  among (inr t) = λ bit inside there_set. starts_more Old (held_if w h) w s refl K u s b is there others (λ j differ. refl) bit inside (ap (λ z. has_bit z bit) (sym t.1) ∙ there_set)

  started : StartsAre starts s new_s b → starting_of K (leaf_with g u new_s) ≡ starting_of K Old ++ cond starts (x.number ∷ []) []
  started (inl t) = more_starting Old (held_if w h) w s refl x.number new_s b b_is some is last t.1 t.2 ∙ ap (λ c. starting_of K Old ++ cond c (x.number ∷ []) []) (sym t.0)
  started (inr t) = ap (λ z. starting_of K (leaf_with [] 0 z)) t.1 ∙ sym (append-nil (starting_of K Old)) ∙ ap (λ c. starting_of K Old ++ cond c (x.number ∷ []) []) (sym t.0)

  pub grown_leaf : StartsAre starts s new_s b → IsGrown x starts Old (leaf_with g u new_s)
  grown_leaf at =
      let gr = grown Old (held_if w h) w s refl x u b g b_is some is last there others comes x_sorted in
      record {
        instances = ap (filter (has_number u)) held_is ∙ gr.0;
        starting = started at;
        leaf = subst (λ r. let m : Leaf = record { held = r; kept = u; starting = new_s } in IsLeaf K m) (sym held_is) (gr.1 new_s (among at));
        below = λ n more. subst (AllByRecursion (λ i. i.number < n)) (sym held_is) (gr.2 n more);
      }

pub edited_one : (s : Step) (h g : List Instance) (w st : ℕ) → IsLeaf (page_of s.inst) (leaf_with h w st) → HoldsAfterStep w s (held_if w h) (held_if w g) → IsEdited s (leaf_with h w st) (leaf_with g w st)
edited_one s h g w st is at = record {
  instances = edited_kept s w (held_if w h) (held_if w g) at;
  starting = refl;
  leaf = edited_leaf s (page_of s.inst) w st (held_if w h) (held_if w g) at is;
  below = edited_below s w (held_if w h) (held_if w g) at;
}

-- a page of which nothing is kept any more counts as given up, and another holds what it held
held_after : (w u : ℕ) (h : List Instance) → (w ≡ 0 → u ≡ 0) → ((u ≡ 0) × (held_if u h ≡ [])) ⊎ (held_if u h ≡ held_if w h)
held_after w zero h none = inl (refl, refl)
held_after zero (suc u) h none = absurd (let e = none refl in omega (arith, e))
held_after (suc w) (suc u) h none = inr refl

module _ (n : ℕ) (h : List Instance) (w s u new_s b : ℕ) (b_is : b ≡ bit_of n) (some : 0 < n) (is : IsLeaf (page_of n) (leaf_with h w s)) (gone : has_bit u b ≡ false) (others : (j : ℕ) → j < 64 → j ≢ b → has_bit u j ≡ has_bit w j) (none : w ≡ 0 → u ≡ 0)
    (s_gone : has_bit new_s b ≡ false) (s_others : (j : ℕ) → j < 64 → j ≢ b → has_bit new_s j ≡ has_bit s j) where
  abbrev Before : Leaf
  Before = leaf_with h w s

  still : (bit : ℕ) → bit < 64 → has_bit new_s bit ≡ true → has_bit u bit ≡ true
  still = starts_less Before (held_if w h) w s refl (page_of n) u new_s b is s_gone others s_others

  less : (filter (has_number u) (held_if w h) ≡ filter (λ i. not (nat_eq i.number n)) (kept_in Before)) × ((z : ℕ) → ((bit : ℕ) → bit < 64 → has_bit z bit ≡ true → has_bit u bit ≡ true) → (let new : Leaf = record { held = held_if w h; kept = u; starting = z } in IsLeaf (page_of n) new))
  less = shrunk Before (held_if w h) w s refl n u b b_is some is gone others

  pub dropped_one : IsDropped n Before (leaf_with h u new_s)
  dropped_one =
      let starts = less_starting Before (held_if w h) w s refl n new_s b b_is some s_gone s_others in
      elim (held_after w u h none) [
        | inl e ↦ record {
          instances = ap (filter (has_number u)) e.1 ∙ sym (none_kept Before u e.0) ∙ less.0;
          starting = starts;
          leaf = subst (λ r. let m : Leaf = record { held = r; kept = u; starting = new_s } in IsLeaf (page_of n) m) (sym e.1) (empty_leaf (page_of n) u new_s e.0 still);
          below = λ m low. subst (AllByRecursion (λ i. i.number < m)) (sym e.1) tt;
        }
        | inr e ↦ record {
          instances = ap (filter (has_number u)) e ∙ less.0;
          starting = starts;
          leaf = subst (λ r. let m : Leaf = record { held = r; kept = u; starting = new_s } in IsLeaf (page_of n) m) (sym e) (less.1 new_s still);
          below = λ m low. subst (AllByRecursion (λ i. i.number < m)) (sym e) low;
        }
      ]
