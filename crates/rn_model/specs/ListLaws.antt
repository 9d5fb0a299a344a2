-- Laws over lists of values. Each is the contract of a function that does nothing.
use Rattle.std.specs.Prelude.{◌≡◌, ◌-◌, List}
use Rattle.std.specs.List.Sorted.{IsSorted}
use Rattle.rn_value.specs.Order.{value_cmp}
use Rattle.rn_value.specs.declared.value.Value.{Value}
use Rattle.rn_model.specs.Lists.{count_of, ordered_values, without_each}

-- ordered values ascend
abbrev pub OrderedValuesAscend : Type 0
OrderedValuesAscend = (vs : List Value) → IsSorted value_cmp (ordered_values vs)

-- and hold each value as often as before
abbrev pub OrderedValuesStay : Type 0
OrderedValuesStay = (vs : List Value) (v : Value) → count_of v (ordered_values vs) ≡ count_of v vs

-- Without others, values hold each one as often as before less as often as it is among the others,
-- and not at all where it was there less often.
abbrev pub OthersAreTaken : Type 0
OthersAreTaken = (ws vs : List Value) (v : Value) →
    count_of v (without_each ws vs) ≡ count_of v ws - count_of v vs
