-- A variant of a value determines what it holds.
use Rattle.std.proofs.Common.{◌≡◌, ℕ, List, [], sym, ap, ◌∙◌, subst}
use Rattle.rn_value.specs.declared.value.InstRef.TheVariants.{Old}
use Rattle.rn_value.specs.declared.value.Value.{Value, out-Value}
use Rattle.rn_value.specs.declared.value.Value.TheOpen as V
use Rattle.rn_value.specs.declared.value.Value.TheVariants as Value

abbrev parts_step : V.Value-F Value → List Value
parts_step (V.Tuple vs) = vs
parts_step (V.List vs) = vs
parts_step _ = []

abbrev parts : Value → List Value
parts v = parts_step (out-Value v)

parts-Tuple : (vs : List Value) → parts (Value.Tuple vs) ≡ vs
parts-Tuple vs = rw (Value.outs-Tuple vs)

parts-List : (vs : List Value) → parts (Value.List vs) ≡ vs
parts-List vs = rw (Value.outs-List vs)

-- equal tuples have the same parts
pub same_parts_of_tuples : (vs ws : List Value) → Value.Tuple vs ≡ Value.Tuple ws → vs ≡ ws
same_parts_of_tuples vs ws is = sym (parts-Tuple vs) ∙ ap parts is ∙ parts-Tuple ws

-- equal lists have the same elements
pub same_parts_of_lists : (vs ws : List Value) → Value.List vs ≡ Value.List ws → vs ≡ ws
same_parts_of_lists vs ws is = sym (parts-List vs) ∙ ap parts is ∙ parts-List ws

abbrev IsTuple : V.Value-F Value → Type 0
IsTuple (V.Tuple vs) = Unit {0}
IsTuple _ = ⊥

-- no tuple is a list
pub tuple_is_no_list : (vs ws : List Value) → Value.Tuple vs ≡ Value.List ws → ⊥
tuple_is_no_list vs ws is =
    subst IsTuple (sym (Value.outs-Tuple vs) ∙ ap out-Value is ∙ Value.outs-List ws) tt

-- equal references to existing instances have one number
pub same_old : (j k : ℕ) → Old j ≡ Old k → j ≡ k
same_old j k e = cc
