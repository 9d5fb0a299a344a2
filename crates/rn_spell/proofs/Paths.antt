-- Where nodes ascend by path, all but one have another path than that one.
use Rattle.std.proofs.Common.{◌≡◌, ◌≢◌, ℕ, ◌+◌, ◌<◌, ◌≤◌, Bool, true, false, List, length, get_or, take, drop, get_or-take, get_or-drop, length-take, length-drop, refl, sym, ap, ◌∙◌, subst, arith}
use Rattle.std.specs.Prelude.{Ok, Err, Result, IfSome, IfNone, nat_eq, nat_lt}
use Rattle.std.proofs.lemmas.Bool.Decides.{nat_tests}
use Rattle.std.specs.Result.{result_ok}
use Rattle.std.specs.List.Sorted.{IsPartitionPoint, IsNonDecreasingBy, IsSearchInRange, IsBinarySearchResult}
use Rattle.std.specs.Cmp.{IsTotalOrder, tied_itself}
use Rattle.std.specs.Cmp.Lexicographic.{slice_cmp, pointwise}
use Rattle.std.specs.Ordering.{nat_cmp, ordering_index, ordering_reverse, is_lt}
use Rattle.std.specs.FinMap.{nat_cmp-IsAntisymmetric, slice_cmp-IsAntisymmetric}
use Rattle.std.specs.declared.cmp.Ordering.{Ordering}
use Rattle.std.specs.declared.cmp.Ordering.TheVariants.{Less, Equal, Greater}
use Rattle.std.proofs.lemmas.Cmp.{nat_list_cmp_total, on_total}
use Rattle.std.proofs.lemmas.Map.Keys.{Less-from_sorted, sorted_from_all_adjacent}
use Rattle.std.proofs.lemmas.List.Sorted.{searchable_from_sorted}
use Rattle.rn_items.proofs.Numbers.{same_numbers}
use Rattle.rn_model.specs.declared.binding.Node.{Node}
use Rattle.rn_spell.specs.link.Marks.{AscendByPath, OtherPaths}

abbrev by_path : Node → Node → Ordering
by_path x y = slice_cmp nat_cmp x.path y.path

by_path_total : IsTotalOrder by_path
by_path_total = on_total (λ (n : Node). n.path) nat_list_cmp_total

-- each node's path is below those of all later ones
below_later : (nodes : List Node) (i j : ℕ) (d : Node) → AscendByPath nodes → i < j →
    j < length nodes → by_path (get_or nodes i d) (get_or nodes j d) ≡ Less
below_later nodes i j d up h k =
    Less-from_sorted by_path nodes i j d
    (sorted_from_all_adjacent by_path_total nodes d (λ n m. up n d m)) h k

same_from_equal : (p q : List ℕ) → slice_cmp nat_cmp p q ≡ Equal → p ≡ q
same_from_equal = slice_cmp-IsAntisymmetric nat_cmp-IsAntisymmetric

-- a path that isn't `Equal` to another is another
apart : (p q : List ℕ) (o : Ordering) → slice_cmp nat_cmp p q ≡ o → o ≢ Equal →
    pointwise nat_eq p q ≡ false
apart p q o e other = by_test (pointwise nat_eq p q) refl
  where
    by_test : (same : Bool) → pointwise nat_eq p q ≡ same → same ≡ false
    by_test false is = refl
    by_test true is =
        let tied : slice_cmp nat_cmp p q ≡ Equal
        = subst (λ r. slice_cmp nat_cmp p r ≡ Equal) (same_numbers p q is)
        (tied_itself nat_list_cmp_total p) in
        absurd (other (sym e ∙ tied))

less_is_not_equal : Less ≢ Equal
less_is_not_equal e = cc

greater_is_not_equal : Greater ≢ Equal
greater_is_not_equal e = cc

-- a search by a path: how a node's compares with it
abbrev compared : List ℕ → Node → Ordering
compared path y = slice_cmp nat_cmp y.path path

module _ (nodes : List Node) (path : List ℕ) (up : AscendByPath nodes) where
  -- the node at i has the path
  module _ (i : ℕ) (within : i < length nodes) (at : (d : Node) → compared path (get_or nodes i d) ≡ Equal) where
    same : (d : Node) → (get_or nodes i d).path ≡ path
    same d = same_from_equal (get_or nodes i d).path path (at d)

    before_it : OtherPaths path (take i nodes)
    before_it k d h =
        let low : k < i = omega (arith, h, length-take i nodes) in
        let less : slice_cmp nat_cmp (get_or nodes k d).path path ≡ Less = subst (λ q. slice_cmp nat_cmp (get_or nodes k d).path q ≡ Less) (same d) (below_later nodes k i d up low within) in
        subst (λ (y : Node). pointwise nat_eq y.path path ≡ false) (sym (get_or-take i nodes k d low)) (apart (get_or nodes k d).path path Less less less_is_not_equal)

    behind_it : OtherPaths path (drop (i + 1) nodes)
    behind_it k d h =
        let high : i < i + 1 + k = omega arith in
        let there : i + 1 + k < length nodes = omega (arith, h, length-drop (i + 1) nodes) in
        let y : Node = get_or nodes (i + 1 + k) d in
        let less : slice_cmp nat_cmp path y.path ≡ Less = subst (λ q. slice_cmp nat_cmp q y.path ≡ Less) (same d) (below_later nodes i (i + 1 + k) d up high there) in
        let greater : slice_cmp nat_cmp y.path path ≡ Greater = nat_list_cmp_total.antisymm y.path path ∙ ap ordering_reverse less in
        subst (λ (z : Node). pointwise nat_eq z.path path ≡ false) (sym (get_or-drop (i + 1) nodes k d)) (apart y.path path Greater greater greater_is_not_equal)

  answers_rise : IsNonDecreasingBy (λ (y : Node). ordering_index (compared path y)) nodes
  answers_rise =
      searchable_from_sorted nat_list_cmp_total (λ (n : Node). n.path) nodes path
      (λ k d z h. not_below (get_or nodes k d).path (get_or nodes (k + 1) d).path (up k d h))
    where
      not_below : (p q : List ℕ) → slice_cmp nat_cmp p q ≡ Less → is_lt (slice_cmp nat_cmp q p) ≡ false
      not_below p q less = ap is_lt (nat_list_cmp_total.antisymm q p ∙ ap ordering_reverse less)

  nowhere : (i : ℕ) → IsPartitionPoint (λ (y : Node). compared path y ≡ Less) (λ (y : Node). compared path y ≡ Greater) nodes i → OtherPaths path nodes
  nowhere i (below, above) k d h =
      elim (nat_lt k i) as (λ low. nat_lt k i ≡ low → pointwise nat_eq (get_or nodes k d).path path ≡ false) [
        | true ↦ λ e.
            let low : k < i = grind (arith, nat_tests) in
            apart (get_or nodes k d).path path Less (below k d (omega arith) low) less_is_not_equal
        | false ↦ λ e.
            let high : i ≤ k = grind (arith, nat_tests) in
            apart (get_or nodes k d).path path Greater (above k d high h) greater_is_not_equal
      ] refl

  -- what a search by the path says of the nodes
  pub searched_none : (r : Result ℕ ℕ) → IsBinarySearchResult (compared path) nodes r → IfNone (result_ok r) (OtherPaths path nodes)
  searched_none (Ok i) at = tt
  searched_none (Err i) at = nowhere i (at answers_rise)

  pub searched_before : (r : Result ℕ ℕ) → IsSearchInRange r (length nodes) → IsBinarySearchResult (compared path) nodes r → IfSome (result_ok r) (λ k. OtherPaths path (take k nodes))
  searched_before (Ok i) within at = before_it i within at
  searched_before (Err i) within at = tt

  pub searched_behind : (r : Result ℕ ℕ) → IsSearchInRange r (length nodes) → IsBinarySearchResult (compared path) nodes r → IfSome (result_ok r) (λ k. OtherPaths path (drop (k + 1) nodes))
  searched_behind (Ok i) within at = behind_it i within at
  searched_behind (Err i) within at = tt
