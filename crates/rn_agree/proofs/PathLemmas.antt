-- Nodes that ascend by path are found by halving.
use Rattle.std.proofs.Common.{◌≡◌, ◌≢◌, ℕ, suc, zero, ◌+◌, ◌<◌, ◌≤◌, Bool, true, false, List, []}
use Rattle.std.proofs.Common.{◌∷◌, ◌++◌, length, get_or, take, drop, refl, sym, ap, ◌∙◌, subst}
use Rattle.std.proofs.Common.{arith}
use Rattle.std.specs.Prelude.{Some, None, Ok, Err, Result, IfSome, option_and_then, find, nat_eq}
use Rattle.std.specs.Prelude.{nat_lt, slice_get}
use Rattle.std.proofs.lemmas.Bool.Decides.{nat_tests}
use Rattle.std.specs.List.{All}
use Rattle.std.specs.Result.{result_ok}
use Rattle.std.specs.List.Sorted.{IsPartitionPoint, IsNonDecreasingBy, IsSearchInRange}
use Rattle.std.specs.List.Sorted.{IsBinarySearchResult}
use Rattle.std.specs.Cmp.{IsTotalOrder, tied_itself}
use Rattle.std.specs.Cmp.Lexicographic.{slice_cmp, pointwise}
use Rattle.std.specs.Ordering.{nat_cmp, ordering_then, ordering_index, ordering_reverse, is_lt}
use Rattle.std.specs.FinMap.{nat_cmp-IsAntisymmetric, slice_cmp-IsAntisymmetric}
use Rattle.std.specs.declared.cmp.Ordering.{Ordering}
use Rattle.std.specs.declared.cmp.Ordering.TheVariants.{Less, Equal, Greater}
use Rattle.std.proofs.lemmas.Cmp.{nat_list_cmp_total, on_total, ranked}
use Rattle.std.proofs.lemmas.List.{get_or_default}
use Rattle.std.proofs.lemmas.Map.Keys.{Less-from_sorted, sorted_from_all_adjacent}
use Rattle.std.proofs.lemmas.List.Sorted.{searchable_from_sorted}
use Rattle.rn_items.proofs.Numbers.{same_numbers, numbers_themselves}
use Rattle.rn_model.specs.declared.binding.Node.{Node}
use Rattle.rn_agree.specs.Paths.{AscendByPath}

-- a path that is shorter than another compares with all that begin with that one alike
pub shorter : (p q r : List ℕ) → length p < length q →
    slice_cmp nat_cmp p (q ++ r) ≡ slice_cmp nat_cmp p q
shorter p [] r h = let no : ⊥ = omega (arith, h) in absurd no
shorter [] (y ∷ q) r h = refl
shorter (x ∷ p) (y ∷ q) r h =
    ap (ordering_then (nat_cmp x y)) (shorter p q r (omega (arith, h)))

-- a path that is no shorter compares by its front first
pub longer : (p q r : List ℕ) → length q ≤ length p →
    slice_cmp nat_cmp p (q ++ r)
    ≡ ordering_then (slice_cmp nat_cmp (take (length q) p) q)
    (slice_cmp nat_cmp (drop (length q) p) r)
longer p [] r h = refl
longer [] (y ∷ q) r h = let no : ⊥ = omega (arith, h) in absurd no
longer (x ∷ p) (y ∷ q) r h =
    ap (ordering_then (nat_cmp x y)) (longer p q r (omega (arith, h)))
    ∙ then_then (nat_cmp x y) _ _
  where
    then_then : (a b c : Ordering) →
        ordering_then a (ordering_then b c) ≡ ordering_then (ordering_then a b) c
    then_then Less b c = refl
    then_then Equal b c = refl
    then_then Greater b c = refl

-- the same by its front and the rest of it
pub longer_parts : (p q r front back : List ℕ) (a b : Ordering) → length q ≤ length p →
    front ≡ take (length q) p → back ≡ drop (length q) p → a ≡ slice_cmp nat_cmp front q →
    b ≡ slice_cmp nat_cmp back r → ordering_then a b ≡ slice_cmp nat_cmp p (q ++ r)
longer_parts p q r front back a b h is_front is_back is_a is_b =
    rw (is_a, is_b, is_front, is_back) (sym (longer p q r h))

abbrev by_path : Node → Node → Ordering
by_path x y = slice_cmp nat_cmp x.path y.path

by_path_total : IsTotalOrder by_path
by_path_total = on_total (λ (n : Node). n.path) nat_list_cmp_total

-- each node's path is below those of all later ones
pub below_later : (nodes : List Node) (i j : ℕ) (d : Node) → AscendByPath nodes → i < j →
    j < length nodes → by_path (get_or nodes i d) (get_or nodes j d) ≡ Less
below_later nodes i j d up h k =
    Less-from_sorted by_path nodes i j d
    (sorted_from_all_adjacent by_path_total nodes d (λ n m. up n d m)) h k

-- of two nodes the one with the lower path comes first
pub lower_first : (nodes : List Node) → AscendByPath nodes → (k j : ℕ) (x y : Node) →
    k < length nodes → j < length nodes → get_or nodes k x ≡ x → get_or nodes j y ≡ y →
    by_path x y ≡ Less → k < j
lower_first nodes up k j x y h g e f rises =
    elim (nat_cmp k j) as (λ o. nat_cmp k j ≡ o → k < j) [
      | Less ↦ λ o. ranked k j Less (sym o)
      | Equal ↦ λ o.
          let same : k ≡ j = ranked k j Equal (sym o) in
          let one : x ≡ y = sym e ∙ ap (get_or nodes k) refl ∙ get_or_default nodes k x y h ∙ ap
          (λ n. get_or nodes n y) same ∙ f in
          let tied : by_path x y ≡ Equal = subst (λ z. by_path x z ≡ Equal) one
          (tied_itself by_path_total x) in
          let no : ⊥ = cc in absurd no
      | Greater ↦ λ o.
          let after : j < k = ranked k j Greater (sym o) in
          let falls : by_path (get_or nodes j y) (get_or nodes k y)
          ≡ Less = below_later nodes j k y up after h in
          let there : get_or nodes k y ≡ x = get_or_default nodes k y x h ∙ e in
          let back : by_path y x ≡ Less = subst (λ z. by_path y z ≡ Less) there
          (subst (λ z. by_path z (get_or nodes k y) ≡ Less) f falls) in
          let other : by_path x y ≡ Greater = by_path_total.antisymm x y
          ∙ ap ordering_reverse back in
          let no : ⊥ = cc in absurd no
    ] refl

same_from_equal : (p q : List ℕ) → slice_cmp nat_cmp p q ≡ Equal → p ≡ q
same_from_equal = slice_cmp-IsAntisymmetric nat_cmp-IsAntisymmetric

-- a path that isn't `Equal` to another is another
apart : (p q : List ℕ) (o : Ordering) → slice_cmp nat_cmp p q ≡ o → o ≢ Equal →
    pointwise nat_eq p q ≡ false
apart p q o e other = by_test (pointwise nat_eq p q) refl
  where
    by_test : (same : Bool) → pointwise nat_eq p q ≡ same → same ≡ false
    by_test false is = refl
    by_test true is =
        let tied : slice_cmp nat_cmp p q ≡ Equal
        = subst (λ r. slice_cmp nat_cmp p r ≡ Equal) (same_numbers p q is)
        (tied_itself nat_list_cmp_total p) in
        absurd (other (sym e ∙ tied))

find_first : {X : Type 0} (test : X → Bool) (xs : List X) (i : ℕ) (d : X) → i < length xs →
    ((j : ℕ) → j < i → test (get_or xs j d) ≡ false) → test (get_or xs i d) ≡ true →
    find test xs ≡ Some (get_or xs i d)
find_first test [] i d h before here = let no : ⊥ = omega (arith, h) in absurd no
find_first test (x ∷ xs) zero d h before here = rw here refl
find_first test (x ∷ xs) (suc i) d h before here =
    rw (before 0 (omega arith))
    (find_first test xs i d (omega (arith, h)) (λ j k. before (suc j) (omega (arith, k))) here)

find_none : {X : Type 0} (test : X → Bool) (xs : List X) → All (λ x. test x ≡ false) xs →
    find test xs ≡ None
find_none test [] none = refl
find_none test (x ∷ xs) none =
    rw (none 0 x (omega arith))
    (find_none test xs (λ k d h. none (suc k) d (omega (arith, h))))

got : {X : Type 0} (xs : List X) (i : ℕ) (d : X) → i < length xs → slice_get xs i ≡ Some
    (get_or xs i d)
got [] i d h = let no : ⊥ = omega (arith, h) in absurd no
got (x ∷ xs) zero d h = refl
got (x ∷ xs) (suc i) d h = got xs i d (omega (arith, h))

less_is_not_equal : Less ≢ Equal
less_is_not_equal e = cc

greater_is_not_equal : Greater ≢ Equal
greater_is_not_equal e = cc

abbrev on_path : List ℕ → Node → Bool
on_path path node = pointwise nat_eq node.path path

pub found_there : (nodes : List Node) (path : List ℕ) (i : ℕ) (d : Node) → AscendByPath nodes →
    i < length nodes → (get_or nodes i d).path ≡ path →
    find (on_path path) nodes ≡ slice_get nodes i
found_there nodes path i d up h same =
    find_first (on_path path) nodes i d h
    (λ j k.
    let less : slice_cmp nat_cmp (get_or nodes j d).path path ≡ Less
    = subst (λ q. slice_cmp nat_cmp (get_or nodes j d).path q ≡ Less) same
    (below_later nodes j i d up k h) in
    apart (get_or nodes j d).path path Less less less_is_not_equal)
    (subst (λ q. pointwise nat_eq (get_or nodes i d).path q ≡ true) same
    (numbers_themselves (get_or nodes i d).path))
    ∙ sym (got nodes i d h)

answers_rise : (nodes : List Node) (path : List ℕ) → AscendByPath nodes →
    IsNonDecreasingBy (λ (y : Node). ordering_index (slice_cmp nat_cmp y.path path)) nodes
answers_rise nodes path up =
    searchable_from_sorted nat_list_cmp_total (λ (n : Node). n.path) nodes path
    (λ k d z h. not_below (get_or nodes k d).path (get_or nodes (k + 1) d).path (up k d h))
  where
    not_below : (p q : List ℕ) → slice_cmp nat_cmp p q ≡ Less → is_lt (slice_cmp nat_cmp q p)
        ≡ false
    not_below p q less = ap is_lt (nat_list_cmp_total.antisymm q p ∙ ap ordering_reverse less)

found_nowhere : (nodes : List Node) (path : List ℕ) (i : ℕ) → IsPartitionPoint
    (λ (y : Node). slice_cmp nat_cmp y.path path ≡ Less)
    (λ (y : Node). slice_cmp nat_cmp y.path path ≡ Greater) nodes i →
    find (on_path path) nodes ≡ None
found_nowhere nodes path i (below, above) =
    find_none (on_path path) nodes (λ k d h.
    elim (nat_lt k i) as (λ low. nat_lt k i ≡ low → on_path path (get_or nodes k d) ≡ false) [
      | true ↦ λ e.
          let low : k < i = grind (arith, nat_tests) in
          apart (get_or nodes k d).path path Less (below k d (omega arith) low) less_is_not_equal
      | false ↦ λ e.
          let high : i ≤ k = grind (arith, nat_tests) in
          apart (get_or nodes k d).path path Greater (above k d high h) greater_is_not_equal
    ] refl)

-- what a search by a path gives is the first node on it
pub found_by_search : (nodes : List Node) (path : List ℕ) (r : Result ℕ ℕ) → AscendByPath nodes →
    IsSearchInRange r (length nodes) →
    IsBinarySearchResult (λ (y : Node). slice_cmp nat_cmp y.path path) nodes r →
    find (on_path path) nodes ≡ option_and_then (slice_get nodes) (result_ok r)
found_by_search [] path (Ok i) up h at = let no : ⊥ = omega (arith, h) in absurd no
found_by_search (x ∷ xs) path (Ok i) up h at =
    found_there (x ∷ xs) path i x up h (same_from_equal _ path (at x))
found_by_search nodes path (Err i) up h at =
    found_nowhere nodes path i (at (answers_rise nodes path up))

-- and it is one of the nodes
pub within_search : (n : ℕ) (r : Result ℕ ℕ) → IsSearchInRange r n → IfSome (result_ok r)
    (λ k. k < n)
within_search n (Ok i) h = h
within_search n (Err i) h = tt
