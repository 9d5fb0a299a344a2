-- Sorted values are the ordered ones.
use Rattle.std.proofs.Common.{◌≡◌, ◌<◌, List, [], ◌∷◌, length, refl, sym, ◌∙◌, arith}
use Rattle.std.specs.List.Sorted.{IsSorted, IsPermutation}
use Rattle.std.proofs.lemmas.List.Sorted.{sum_by-IsPermutation}
use Rattle.rn_value.specs.Order.{value_cmp}
use Rattle.rn_value.specs.declared.value.Value.{Value}
use Rattle.rn_value.proofs.SortedLists.{values_by_counts}
use Rattle.rn_model.specs.Lists.{same_value, ordered_values}
use Rattle.rn_model.proofs.ValueLists.{one_if, ordered_values_ascend, ordered_values_stay}

pub sorted_is_ordered : (vs ws : List Value) → IsSorted value_cmp ws → IsPermutation vs ws →
    ws ≡ ordered_values vs
sorted_is_ordered vs ws sorted moved =
    values_by_counts ws (ordered_values vs) sorted (ordered_values_ascend vs)
    (λ v. sum_by-IsPermutation (λ w. one_if (same_value v w)) vs ws moved
    ∙ sym (ordered_values_stay vs v))

pub short_is_ordered : (vs : List Value) → length vs < 2 → vs ≡ ordered_values vs
short_is_ordered [] short = refl
short_is_ordered (v ∷ []) short = refl
short_is_ordered (v ∷ w ∷ vs) short = absurd (let no : ⊥ = omega (arith, short) in no)
