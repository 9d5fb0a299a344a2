-- Ascending lists, and where one is cut in two: before or after a value, and before or after the
-- tuples with a first part.
use Rattle.std.specs.Prelude.{◌≡◌, Bool, true, false, not, ◌||◌, ⊤, List, [], ◌∷◌}
use Rattle.std.specs.List.{AllByRecursion}
use Rattle.std.specs.Ordering.{is_lt}
use Rattle.rn_value.specs.Order.{value_cmp}
use Rattle.rn_value.specs.declared.value.Value.{Value, out-Value}
use Rattle.rn_value.specs.declared.value.Value.TheVariants as Value
use Rattle.rn_value.specs.declared.value.Value.TheOpen as V
use Rattle.rn_model.specs.Lists.{same_value}
use Rattle.rn_bag.specs.declared.cut.Cut.{Cut}
use Rattle.rn_bag.specs.declared.cut.Cut.TheVariants.{Below, UpTo, BelowFirst, UpToFirst}

-- one layer of a value: whether it is a tuple with this first part
abbrev pub has_first_step : Value → V.Value-F Value → Bool
has_first_step first (V.Tuple (part ∷ parts)) = same_value first part
has_first_step first _ = false

-- whether a value is a tuple with at least one part whose first part is this
abbrev pub has_first : Value → Value → Bool
has_first first v = has_first_step first (out-Value v)

-- Whether a value stands before the cut at a key: it is below the key, or at most the key; it is
-- below each tuple that begins with the key, or is such a tuple or below them.
abbrev pub is_before : Cut → Value → Value → Bool
is_before Below key v = is_lt (value_cmp v key)
is_before UpTo key v = not (is_lt (value_cmp key v))
is_before BelowFirst key v = is_lt (value_cmp v (Value.Tuple (key ∷ [])))
is_before UpToFirst key v = is_lt (value_cmp v (Value.Tuple (key ∷ []))) || has_first key v

-- each of these stands before the cut
abbrev pub AllBefore : Cut → Value → List Value → Type 0
AllBefore cut key = AllByRecursion (λ v. is_before cut key v ≡ true)

-- none of these stands before the cut
abbrev pub NoneBefore : Cut → Value → List Value → Type 0
NoneBefore cut key = AllByRecursion (λ v. is_before cut key v ≡ false)

-- each of these is below the value
abbrev pub AllBelow : Value → List Value → Type 0
AllBelow v = AllByRecursion (λ w. is_lt (value_cmp w v) ≡ true)

-- none of these is below the value
abbrev pub NoneBelow : Value → List Value → Type 0
NoneBelow v = AllByRecursion (λ w. is_lt (value_cmp w v) ≡ false)

-- these ascend
abbrev pub Ascends : List Value → Type 0
Ascends [] = ⊤
Ascends (v ∷ vs) = NoneBelow v vs × Ascends vs
