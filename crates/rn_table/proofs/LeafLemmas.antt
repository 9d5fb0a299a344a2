-- A page whose instances or words change.
use Rattle.std.proofs.Common.{◌≡◌, ◌≢◌, ℕ, ◌+◌, ◌*◌, ◌<◌, ◌≤◌, nat_eq, Bool, true, false, cond, Some, None, List, [], ◌∷◌, ◌++◌, refl, sym, ap, ◌∙◌, subst, arith, inl, inr}
use Rattle.std.specs.Prelude.{filter, not, ◌&&◌, ◌⊎◌}
use Rattle.std.proofs.lemmas.Bool.{true≢false, eqb-true}
use Rattle.std.proofs.lemmas.List.Elements.{filter-append}
use Rattle.std.proofs.lemmas.Nat.Bits.{bit_at-zero}
use Rattle.std.specs.List.{AllByRecursion}
use Rattle.rn_model.specs.Markings.{Instance}
use Rattle.rn_model.proofs.EachElement.{each_append}
use Rattle.rn_bag.specs.Words.{has_bit}
use Rattle.rn_bag.specs.Slots.{there_from}
use Rattle.rn_table.proofs.StartingLemmas.{bit_added, bit_dropped}
use Rattle.rn_table.specs.link.Leaves.{Leaf, starting_of, upward, Ascending, HasSortedPlaces, IsLeaf, bit_of, page_of, has_number, kept_in, numbered}
use Rattle.rn_table.proofs.InstanceLemmas.{same_number, all_map, all_lower, all_filtered, ascending_filtered, ascending_more, numbered_later, numbered_kept, numbered_passed, numbered_is, filter_same, filter_both, filter_again, filter_none}

-- numbers of one page
pub page_is : (k n : ℕ) → 64 * k < n → n ≤ 64 * k + 64 → page_of n ≡ k
page_is k n low high = omega arith

pub bit_is : (k n : ℕ) → 64 * k < n → n ≤ 64 * k + 64 → n ≡ 64 * k + bit_of n + 1
bit_is k n low high = omega arith

pub page_low : (n : ℕ) → 0 < n → 64 * page_of n < n
page_low n some = omega arith

pub page_high : (n : ℕ) → n ≤ 64 * page_of n + 64
page_high n = omega arith

pub bit_low : (n : ℕ) → bit_of n < 64
bit_low n = omega arith

pub bit_back : (k bit : ℕ) → bit < 64 → bit_of (64 * k + bit + 1) ≡ bit
bit_back k bit low = omega arith

bits_differ : (k a b : ℕ) → 64 * k < a → a ≤ 64 * k + 64 → 64 * k < b → b ≤ 64 * k + 64 → a ≢ b → bit_of a ≢ bit_of b
bits_differ k a b a_low a_high b_low b_high differ = λ e. differ (bit_is k a a_low a_high ∙ ap (λ j. 64 * k + j + 1) e ∙ sym (bit_is k b b_low b_high))

-- what is known of two facts of each instance
pub all_two : (P Q R : Instance → Type 0) (is : List Instance) → ((i : Instance) → P i → Q i → R i) → AllByRecursion P is → AllByRecursion Q is → AllByRecursion R is
all_two P Q R [] f p q = tt
all_two P Q R (i ∷ is) f p q = (f i p.0 q.0, all_two P Q R is f p.1 q.1)

-- other instances of a page keep their bits
others_keep : (k : ℕ) (w u n : ℕ) (is : List Instance) → 64 * k < n → n ≤ 64 * k + 64 → AllByRecursion (λ i. 64 * k < i.number) is → AllByRecursion (λ i. i.number ≤ 64 * k + 64) is → ((j : ℕ) → j < 64 → j ≢ bit_of n → has_bit u j ≡ has_bit w j) →
    AllByRecursion (λ i. i.number ≢ n → has_number u i ≡ has_number w i) is
others_keep k w u n is low high above below others =
    all_two (λ i. 64 * k < i.number) (λ i. i.number ≤ 64 * k + 64) (λ i. i.number ≢ n → has_number u i ≡ has_number w i) is
    (λ i a b differ. others (bit_of i.number) (bit_low i.number) (bits_differ k i.number n a b low high differ)) above below

-- a new instance
module _ (l : Leaf) (x : Instance) (u : ℕ) (some : 0 < x.number) (is : IsLeaf (page_of x.number) l) (last : AllByRecursion (λ i. i.number < x.number) l.held) (there : has_bit u (bit_of x.number) ≡ true) (others : (j : ℕ) → j < 64 → j ≢ bit_of x.number → has_bit u j ≡ has_bit l.kept j) where
  abbrev K : ℕ
  K = page_of x.number

  same_bits : AllByRecursion (λ i. has_number u i ≡ has_number l.kept i) l.held
  same_bits =
      all_two (λ i. i.number < x.number) (λ i. i.number ≢ x.number → has_number u i ≡ has_number l.kept i) (λ i. has_number u i ≡ has_number l.kept i) l.held
      (λ i low keep. keep (λ e. omega (arith, e, low))) last (others_keep K l.kept u x.number l.held (page_low x.number some) (page_high x.number) is.above is.below others)

  with_last : (xs : List Instance) → AllByRecursion (λ i. has_number u i ≡ has_number l.kept i) xs → filter (has_number u) (xs ++ x ∷ []) ≡ filter (has_number l.kept) xs ++ x ∷ []
  with_last xs same =
      filter-append (has_number u) xs (x ∷ []) ∙ ap (λ r. r ++ filter (has_number u) (x ∷ [])) (filter_same (has_number u) (has_number l.kept) xs same)
      ∙ ap (λ b. filter (has_number l.kept) xs ++ cond b (x ∷ []) []) there

  pub added_kept : (held : List Instance) → (held ≡ l.held ++ x ∷ []) ⊎ (held ≡ filter (has_number l.kept) l.held ++ x ∷ []) → filter (has_number u) held ≡ kept_in l ++ x ∷ []
  added_kept held (inl e) = ap (filter (has_number u)) e ∙ with_last l.held same_bits
  added_kept held (inr e) =
      ap (filter (has_number u)) e ∙ with_last (filter (has_number l.kept) l.held) (all_filtered (λ i. has_number u i ≡ has_number l.kept i) (has_number l.kept) l.held same_bits)
      ∙ ap (λ r. r ++ x ∷ []) (filter_again (has_number l.kept) l.held)

  pub added_below : (held : List Instance) → (held ≡ l.held ++ x ∷ []) ⊎ (held ≡ filter (has_number l.kept) l.held ++ x ∷ []) → (n : ℕ) → x.number < n → AllByRecursion (λ i. i.number < n) held
  added_below held at n more =
      let low : AllByRecursion (λ i. i.number < n) l.held = all_map (λ i. i.number < x.number) (λ i. i.number < n) l.held (λ i h. omega (arith, h, more)) last in
      elim at [
        | inl e ↦ subst (AllByRecursion (λ i. i.number < n)) (sym e) (each_append (λ i. i.number < n) l.held (x ∷ []) low (more, tt))
        | inr e ↦ subst (AllByRecursion (λ i. i.number < n)) (sym e) (each_append (λ i. i.number < n) (filter (has_number l.kept) l.held) (x ∷ []) (all_filtered (λ i. i.number < n) (has_number l.kept) l.held low) (more, tt))
      ]

  -- the page of some of the old instances with the new one
  new_leaf : (xs : List Instance) (s : ℕ) → Ascending xs → AllByRecursion (λ i. i.number < x.number) xs → AllByRecursion (λ i. 64 * K < i.number) xs → AllByRecursion HasSortedPlaces xs → HasSortedPlaces x →
      ((bit : ℕ) → bit < 64 → has_bit l.kept bit ≡ true → (i : Instance) × (numbered (64 * K + bit + 1) xs ≡ Some i)) →
      ((bit : ℕ) → bit < 64 → has_bit s bit ≡ true → has_bit u bit ≡ true) → (held : List Instance) → held ≡ xs ++ x ∷ [] → (let new : Leaf = record { held = held; kept = u; starting = s } in IsLeaf K new)
  new_leaf xs s up low above sorted x_sorted filled starts held e =
      let high : x.number ≤ 64 * K + 64 = page_high x.number in
      subst (λ h. let new : Leaf = record { held = h; kept = u; starting = s } in IsLeaf K new) (sym e) (record {
        ascending = ascending_more xs x up low;
        above = each_append (λ i. 64 * K < i.number) xs (x ∷ []) above (page_low x.number some, tt);
        below = each_append (λ i. i.number ≤ 64 * K + 64) xs (x ∷ []) (all_map (λ i. i.number < x.number) (λ i. i.number ≤ 64 * K + 64) xs (λ i h. omega (arith, h, high)) low) (high, tt);
        sorted = each_append HasSortedPlaces xs (x ∷ []) sorted (x_sorted, tt);
        filled = λ bit inside set. elim (nat_eq bit (bit_of x.number)) as (λ t. nat_eq bit (bit_of x.number) ≡ t → (i : Instance) × (numbered (64 * K + bit + 1) (xs ++ x ∷ []) ≡ Some i)) [
          | true ↦ λ same. (x, new_found xs bit low (eqb-true bit (bit_of x.number) same))
          | false ↦ λ other. (let old = filled bit inside (sym (others bit inside (λ e. true≢false (sym (ap (λ j. nat_eq bit j) (sym e) ∙ same_number bit) ∙ other))) ∙ set) in
              (old.0, numbered_kept (64 * K + bit + 1) xs (x ∷ []) old.0 old.1))
        ] refl;
        starts = starts;
      })
    where
      new_found : (ys : List Instance) (bit : ℕ) → AllByRecursion (λ i. i.number < x.number) ys → bit ≡ bit_of x.number → numbered (64 * K + bit + 1) (ys ++ x ∷ []) ≡ Some x
      new_found ys bit ys_low is_bit =
          let n_is : 64 * K + bit + 1 ≡ x.number = ap (λ j. 64 * K + j + 1) is_bit ∙ sym (bit_is K x.number (page_low x.number some) (page_high x.number)) in
          ap (λ n. numbered n (ys ++ x ∷ [])) n_is ∙ numbered_later x.number ys (x ∷ []) (all_lower x.number ys ys_low) ∙ ap (λ b. cond b (Some x) None) (same_number x.number)

  pub added_leaf : (held : List Instance) (s : ℕ) → (held ≡ l.held ++ x ∷ []) ⊎ (held ≡ filter (has_number l.kept) l.held ++ x ∷ []) → HasSortedPlaces x → ((bit : ℕ) → bit < 64 → has_bit s bit ≡ true → has_bit u bit ≡ true) →
      (let new : Leaf = record { held = held; kept = u; starting = s } in IsLeaf K new)
  added_leaf held s (inl e) x_sorted starts = new_leaf l.held s is.ascending last is.above is.sorted x_sorted is.filled starts held e
  added_leaf held s (inr e) x_sorted starts =
      let t : Instance → Bool = has_number l.kept in
      new_leaf (filter t l.held) s (ascending_filtered t l.held is.ascending) (all_filtered (λ i. i.number < x.number) t l.held last) (all_filtered (λ i. 64 * K < i.number) t l.held is.above) (all_filtered HasSortedPlaces t l.held is.sorted) x_sorted
      (λ bit inside set. let old = is.filled bit inside set in
      (old.0, numbered_passed (λ n. has_bit l.kept (bit_of n)) (64 * K + bit + 1) l.held (ap (has_bit l.kept) (bit_back K bit inside) ∙ set) ∙ old.1))
      starts held e

-- an instance that is kept no more
module _ (l : Leaf) (n u : ℕ) (some : 0 < n) (is : IsLeaf (page_of n) l) (gone : has_bit u (bit_of n) ≡ false) (others : (j : ℕ) → j < 64 → j ≢ bit_of n → has_bit u j ≡ has_bit l.kept j) where
  abbrev N : ℕ
  N = page_of n

  gone_case : (i : Instance) → (i.number ≢ n → has_number u i ≡ has_number l.kept i) → has_number u i ≡ (not (nat_eq i.number n) && has_number l.kept i)
  gone_case i keep = elim (nat_eq i.number n) as (λ t. nat_eq i.number n ≡ t → has_number u i ≡ (not t && has_number l.kept i)) [
    | true ↦ λ e. ap (λ m. has_bit u (bit_of m)) (eqb-true i.number n e) ∙ gone
    | false ↦ λ e. keep (λ same. true≢false (sym (ap (λ m. nat_eq m n) same ∙ same_number n) ∙ e))
  ] refl

  pub dropped_kept : filter (has_number u) l.held ≡ filter (λ i. not (nat_eq i.number n)) (kept_in l)
  dropped_kept =
      filter_both (λ i. not (nat_eq i.number n)) (has_number l.kept) (has_number u) l.held
      (all_map (λ i. i.number ≢ n → has_number u i ≡ has_number l.kept i) (λ i. has_number u i ≡ (not (nat_eq i.number n) && has_number l.kept i)) l.held gone_case
      (others_keep N l.kept u n l.held (page_low n some) (page_high n) is.above is.below others))

  fewer : (bit : ℕ) → bit < 64 → has_bit u bit ≡ true → has_bit l.kept bit ≡ true
  fewer bit inside set = elim (nat_eq bit (bit_of n)) as (λ t. nat_eq bit (bit_of n) ≡ t → has_bit l.kept bit ≡ true) [
    | true ↦ λ e. absurd (true≢false (sym set ∙ ap (has_bit u) (eqb-true bit (bit_of n) e) ∙ gone))
    | false ↦ λ e. sym (others bit inside (λ same. true≢false (sym (ap (λ j. nat_eq bit j) (sym same) ∙ same_number bit) ∙ e))) ∙ set
  ] refl

  pub dropped_leaf : (s : ℕ) → ((bit : ℕ) → bit < 64 → has_bit s bit ≡ true → has_bit u bit ≡ true) → (let new : Leaf = record { held = l.held; kept = u; starting = s } in IsLeaf N new)
  dropped_leaf s starts = record {
    ascending = is.ascending;
    above = is.above;
    below = is.below;
    sorted = is.sorted;
    filled = λ bit inside set. is.filled bit inside (fewer bit inside set);
    starts = starts;
  }

pub no_bit : (bit : ℕ) → has_bit 0 bit ≡ false
no_bit bit = ap (λ b. nat_eq b 1) (bit_at-zero bit)

-- a page without kept instances is given up
pub none_kept : (l : Leaf) (u : ℕ) → u ≡ 0 → filter (has_number u) l.held ≡ []
none_kept l u none = filter_none (has_number u) l.held (all_of (λ i. has_number u i ≡ false) (λ i. ap (λ w. has_bit w (bit_of i.number)) none ∙ no_bit (bit_of i.number)) l.held)
  where
    all_of : (P : Instance → Type 0) → ((i : Instance) → P i) → (is : List Instance) → AllByRecursion P is
    all_of P f [] = tt
    all_of P f (i ∷ is) = (f i, all_of P f is)

pub empty_leaf : (k u s : ℕ) → u ≡ 0 → ((bit : ℕ) → bit < 64 → has_bit s bit ≡ true → has_bit u bit ≡ true) → (let new : Leaf = record { held = []; kept = u; starting = s } in IsLeaf k new)
empty_leaf k u s none starts = record {
  ascending = tt;
  above = tt;
  below = tt;
  sorted = tt;
  filled = λ bit inside set. absurd (true≢false (sym set ∙ ap (λ w. has_bit w bit) none ∙ no_bit bit));
  starts = starts;
}

-- the same of a page that is seen, where a bit was set or cleared at an index
module _ (l : Leaf) (h : List Instance) (w s : ℕ) (seen : (let old : Leaf = record { held = h; kept = w; starting = s } in old ≡ l)) where
  pub grown : (x : Instance) (u b : ℕ) (held : List Instance) → b ≡ bit_of x.number → 0 < x.number → IsLeaf (page_of x.number) l → AllByRecursion (λ i. i.number < x.number) l.held → has_bit u b ≡ true → ((j : ℕ) → j ≢ b → has_bit u j ≡ has_bit w j) →
      (held ≡ h ++ x ∷ []) ⊎ (held ≡ filter (has_number w) h ++ x ∷ []) → HasSortedPlaces x →
      (filter (has_number u) held ≡ kept_in l ++ x ∷ []) × ((s' : ℕ) → ((bit : ℕ) → bit < 64 → has_bit s' bit ≡ true → has_bit u bit ≡ true) → (let new : Leaf = record { held = held; kept = u; starting = s' } in IsLeaf (page_of x.number) new))
      × ((n : ℕ) → x.number < n → AllByRecursion (λ i. i.number < n) held)
  grown x u b held b_is some is last there others at x_sorted =
      let old : Leaf = record { held = h; kept = w; starting = s } in
      let is' : IsLeaf (page_of x.number) old = subst (IsLeaf (page_of x.number)) (sym seen) is in
      let last' : AllByRecursion (λ i. i.number < x.number) h = subst (λ (m : Leaf). AllByRecursion (λ i. i.number < x.number) m.held) (sym seen) last in
      let there' : has_bit u (bit_of x.number) ≡ true = subst (λ j. has_bit u j ≡ true) b_is there in
      let others' : (j : ℕ) → j < 64 → j ≢ bit_of x.number → has_bit u j ≡ has_bit w j = λ j inside differ. others j (λ e. differ (e ∙ b_is)) in (
        subst (λ (m : Leaf). filter (has_number u) held ≡ kept_in m ++ x ∷ []) seen (added_kept old x u some is' last' there' others' held at),
        λ s' starts. added_leaf old x u some is' last' there' others' held s' at x_sorted starts,
        added_below old x u some is' last' there' others' held at,
      )

  -- what starts is among what is kept, with one more bit
  pub starts_more : (k u s' b : ℕ) → IsLeaf k l → has_bit u b ≡ true → ((j : ℕ) → j ≢ b → has_bit u j ≡ has_bit w j) → ((j : ℕ) → j ≢ b → has_bit s' j ≡ has_bit s j) → (bit : ℕ) → bit < 64 → has_bit s' bit ≡ true → has_bit u bit ≡ true
  starts_more k u s' b is there others s_others bit inside set = elim (nat_eq bit b) as (λ t. nat_eq bit b ≡ t → has_bit u bit ≡ true) [
    | true ↦ λ e. ap (has_bit u) (eqb-true bit b e) ∙ there
    | false ↦ λ e. (let differ : bit ≢ b = λ same. true≢false (sym (ap (nat_eq bit) (sym same) ∙ same_number bit) ∙ e) in
        let old = subst (IsLeaf k) (sym seen) is in
        others bit differ ∙ old.starts bit inside (sym (s_others bit differ) ∙ set))
  ] refl

  -- no bit from that of a higher number on starts
  pub none_starts : (x : ℕ) → 0 < x → IsLeaf (page_of x) l → AllByRecursion (λ i. i.number < x) l.held → (bit : ℕ) → bit_of x ≤ bit → bit < 64 → has_bit s bit ≡ false
  none_starts x some is last bit past inside = elim (has_bit s bit) as (λ t. has_bit s bit ≡ t → t ≡ false) [
    | true ↦ λ e. (let old = subst (IsLeaf (page_of x)) (sym seen) is in
        let found = old.filled bit inside (old.starts bit inside e) in
        let known = numbered_is (λ i. i.number < x) (64 * page_of x + bit + 1) h found.0 (subst (λ (m : Leaf). AllByRecursion (λ i. i.number < x) m.held) (sym seen) last) found.1 in
        let x_is : x ≡ 64 * page_of x + bit_of x + 1 = bit_is (page_of x) x (page_low x some) (page_high x) in
        absurd (let none : ⊥ = omega (arith, known.0, known.1, x_is, past) in none))
    | false ↦ λ _. refl
  ] refl

  pub shrunk : (n u b : ℕ) → b ≡ bit_of n → 0 < n → IsLeaf (page_of n) l → has_bit u b ≡ false → ((j : ℕ) → j < 64 → j ≢ b → has_bit u j ≡ has_bit w j) →
      (filter (has_number u) h ≡ filter (λ i. not (nat_eq i.number n)) (kept_in l)) × ((s' : ℕ) → ((bit : ℕ) → bit < 64 → has_bit s' bit ≡ true → has_bit u bit ≡ true) → (let new : Leaf = record { held = h; kept = u; starting = s' } in IsLeaf (page_of n) new))
  shrunk n u b b_is some is gone others =
      let old : Leaf = record { held = h; kept = w; starting = s } in
      let is' : IsLeaf (page_of n) old = subst (IsLeaf (page_of n)) (sym seen) is in
      let gone' : has_bit u (bit_of n) ≡ false = subst (λ j. has_bit u j ≡ false) b_is gone in
      let others' : (j : ℕ) → j < 64 → j ≢ bit_of n → has_bit u j ≡ has_bit w j = λ j inside differ. others j inside (λ e. differ (e ∙ b_is)) in (
        subst (λ (m : Leaf). filter (has_number u) h ≡ filter (λ i. not (nat_eq i.number n)) (kept_in m)) seen (dropped_kept old n u some is' gone' others'),
        λ s' starts. dropped_leaf old n u some is' gone' others' s' starts,
      )

  pub starts_less : (k u s' b : ℕ) → IsLeaf k l → has_bit s' b ≡ false → ((j : ℕ) → j < 64 → j ≢ b → has_bit u j ≡ has_bit w j) → ((j : ℕ) → j < 64 → j ≢ b → has_bit s' j ≡ has_bit s j) → (bit : ℕ) → bit < 64 → has_bit s' bit ≡ true → has_bit u bit ≡ true
  starts_less k u s' b is gone others s_others bit inside set = elim (nat_eq bit b) as (λ t. nat_eq bit b ≡ t → has_bit u bit ≡ true) [
    | true ↦ λ e. absurd (true≢false (sym set ∙ ap (has_bit s') (eqb-true bit b e) ∙ gone))
    | false ↦ λ e. (let differ : bit ≢ b = λ same. true≢false (sym (ap (nat_eq bit) (sym same) ∙ same_number bit) ∙ e) in
        let old = subst (IsLeaf k) (sym seen) is in
        others bit inside differ ∙ old.starts bit inside (sym (s_others bit inside differ) ∙ set))
  ] refl

  -- the numbers that may start
  pub more_starting : (x s' b : ℕ) → b ≡ bit_of x → 0 < x → IsLeaf (page_of x) l → AllByRecursion (λ i. i.number < x) l.held → has_bit s' b ≡ true → ((j : ℕ) → j ≢ b → has_bit s' j ≡ has_bit s j) →
      there_from (has_bit s') 0 (upward (64 * page_of x + 1) 64) ≡ starting_of (page_of x) l ++ x ∷ []
  more_starting x s' b b_is some is last there others =
      let a : ℕ = 64 * page_of x + 1 in
      let inside : b < 64 = omega (arith, b_is, bit_low x) in
      let x_is : a + b ≡ x = omega (arith, b_is, bit_is (page_of x) x (page_low x some) (page_high x)) in
      let added = bit_added (has_bit s) (has_bit s') a b 0 64 (omega arith) (omega (arith, inside)) there (λ i low differ. others i differ) (λ i low high. none_starts x some is last i (omega (arith, b_is, low)) (omega (arith, high))) in
      let start : a + 0 ≡ a = omega arith in
      subst (λ k. there_from (has_bit s') 0 (upward k 64) ≡ there_from (has_bit s) 0 (upward k 64) ++ (a + b) ∷ []) start added
      ∙ ap (λ y. there_from (has_bit s) 0 (upward a 64) ++ y ∷ []) x_is ∙ ap (λ (m : Leaf). starting_of (page_of x) m ++ x ∷ []) seen

  pub less_starting : (n s' b : ℕ) → b ≡ bit_of n → 0 < n → has_bit s' b ≡ false → ((j : ℕ) → j < 64 → j ≢ b → has_bit s' j ≡ has_bit s j) →
      there_from (has_bit s') 0 (upward (64 * page_of n + 1) 64) ≡ filter (λ y. not (nat_eq y n)) (starting_of (page_of n) l)
  less_starting n s' b b_is some gone others =
      let a : ℕ = 64 * page_of n + 1 in
      let n_is : a + b ≡ n = omega (arith, b_is, bit_is (page_of n) n (page_low n some) (page_high n)) in
      let start : a + 0 ≡ a = omega arith in
      let dropped = bit_dropped (has_bit s) (has_bit s') a b 0 64 gone (λ i low differ. others i (omega (arith, low)) differ) in
      subst (λ k. there_from (has_bit s') 0 (upward k 64) ≡ filter (λ y. not (nat_eq y (a + b))) (there_from (has_bit s) 0 (upward k 64))) start dropped
      ∙ ap (λ m. filter (λ y. not (nat_eq y m)) (there_from (has_bit s) 0 (upward a 64))) n_is ∙ ap (λ (m : Leaf). filter (λ y. not (nat_eq y n)) (starting_of (page_of n) m)) seen
