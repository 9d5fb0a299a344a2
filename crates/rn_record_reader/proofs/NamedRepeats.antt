-- What all values in a row are, each of their repeats is.
use Rattle.std.proofs.Common.{Bool, true, false, cond, List, [], ◌∷◌, suc}
use Rattle.std.specs.Prelude.{All}
use Rattle.std.proofs.lemmas.List.Elements.{All-nil, All-cons, All-head, All-tail}
use Rattle.rn_value.specs.declared.value.Value.{Value}
use Rattle.rn_model.specs.declared.repeats.Repeat.{Repeat}
use Rattle.rn_model.specs.Lists.{same_value}
use Rattle.rn_model.specs.Repeats.{with_first, repeats_of}

one_more : (P : Value → Type 0) (v : Value) (rs : List Repeat) → P v → All (λ r. P r.value) rs →
    All (λ r. P r.value) (with_first v rs)
one_more P v [] p all = All-cons (λ r. P r.value) (record { value = v; count = 1 }) [] p (All-nil _)
one_more P v (r ∷ rs) p all = by (same_value v r.value)
  where
    by : (same : Bool) → All (λ r. P r.value) (cond same (record { value = v; count = suc r.count } ∷ rs) (record { value = v; count = 1 } ∷ r ∷ rs))
    by true = All-cons (λ r. P r.value) (record { value = v; count = suc r.count }) rs p (All-tail (λ r. P r.value) r rs all)
    by false = All-cons (λ r. P r.value) (record { value = v; count = 1 }) (r ∷ rs) p all

-- what holds of all values holds of the value of each of their repeats
pub all_repeats : (P : Value → Type 0) (vs : List Value) → All P vs → All (λ r. P r.value) (repeats_of vs)
all_repeats P [] all = All-nil _
all_repeats P (v ∷ vs) all =
    one_more P v (repeats_of vs) (All-head P v vs all) (all_repeats P vs (All-tail P v vs all))
