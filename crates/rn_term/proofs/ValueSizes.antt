-- How large a value is, so that what is within a value is smaller.
use Rattle.std.proofs.Common.{◌≡◌, ◌<◌, ◌≤◌, ◌+◌, ◌++◌, ℕ, zero, suc, List, [], ◌∷◌, length, get_or}
use Rattle.std.proofs.Common.{map, sym, ◌∙◌, subst, arith}
use Rattle.rn_value.specs.declared.value.Value.{Value, out-Value, map-Value}
use Rattle.rn_value.specs.declared.value.Value.{fold-Value, fold_out-Value}
use Rattle.rn_value.specs.declared.value.Value.TheVariants as Value
use Rattle.rn_value.specs.declared.value.Value.TheOpen as V

abbrev total : List ℕ → ℕ
total [] = 0
total (n ∷ ns) = n + total ns

-- the size of one value, with those of its parts
abbrev size_step : V.Value-F ℕ → ℕ
size_step (V.Tuple sizes) = suc (total sizes)
size_step (V.List sizes) = suc (total sizes)
size_step _ = 1

pub size_of : Value → ℕ
size_of = fold-Value ℕ size_step

opened : (v : Value) → size_of v ≡ size_step (map-Value Value ℕ size_of (out-Value v))
unfolding size_of
opened v = fold_out-Value ℕ size_step v

pub size-Tuple : (vs : List Value) → size_of (Value.Tuple vs) ≡ suc (total (map size_of vs))
size-Tuple vs = opened (Value.Tuple vs) ∙ rw (Value.outs-Tuple vs)

pub size-List : (vs : List Value) → size_of (Value.List vs) ≡ suc (total (map size_of vs))
size-List vs = opened (Value.List vs) ∙ rw (Value.outs-List vs)

-- no value has the size 0
pub size-positive : (v : Value) → 0 < size_of v
size-positive v =
    subst (λ n. 0 < n) (sym (opened v)) (some (map-Value Value ℕ size_of (out-Value v)))
  where
    some : (y : V.Value-F ℕ) → 0 < size_step y
    some (V.Int n) = omega arith
    some (V.Text s) = omega arith
    some (V.Tuple sizes) = omega arith
    some (V.List sizes) = omega arith
    some (V.Inst i) = omega arith

part_in_total : (vs : List Value) (k : ℕ) (d : Value) → k < length vs →
    size_of (get_or vs k d) ≤ total (map size_of vs)
part_in_total [] k d within = absurd (let no : ⊥ = omega (arith, within) in no)
part_in_total (v ∷ vs) zero d within = omega arith
part_in_total (v ∷ vs) (suc k) d within =
    omega (arith, part_in_total vs k d (omega (arith, within)))

end_in_total : (prefix back : List Value) →
    total (map size_of back) ≤ total (map size_of (prefix ++ back))
end_in_total [] back = omega arith
end_in_total (v ∷ prefix) back = omega (arith, end_in_total prefix back)

pub size-tuple_part : (vs : List Value) (k : ℕ) (d : Value) → k < length vs →
    size_of (get_or vs k d) < size_of (Value.Tuple vs)
size-tuple_part vs k d within = omega (arith, size-Tuple vs, part_in_total vs k d within)

pub size-list_part : (vs : List Value) (k : ℕ) (d : Value) → k < length vs →
    size_of (get_or vs k d) < size_of (Value.List vs)
size-list_part vs k d within = omega (arith, size-List vs, part_in_total vs k d within)

pub size-list_end : (prefix back : List Value) → 0 < length prefix →
    size_of (Value.List back) < size_of (Value.List (prefix ++ back))
size-list_end [] back some = absurd (let no : ⊥ = omega (arith, some) in no)
size-list_end (v ∷ prefix) back some =
    omega (
      arith,
      size-List back,
      size-List (v ∷ prefix ++ back),
      end_in_total prefix back,
      size-positive v,
    )
