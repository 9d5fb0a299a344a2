-- Lengths of lists of values, by how often each value is there.
use Rattle.std.proofs.Common.{◌≡◌, suc, ◌+◌, ◌<◌, ◌≤◌, Bool, true, false, cond, List, []}
use Rattle.std.proofs.Common.{◌∷◌, ◌++◌, length, length-append, refl, sym, ap, ◌∙◌, arith}
use Rattle.std.proofs.lemmas.List.Sums.{sum_by-append}
use Rattle.rn_value.specs.declared.value.Value.{Value}
use Rattle.rn_model.specs.Lists.{same_value, count_of, ordered_values, without_one, IsWithin}
use Rattle.rn_model.proofs.AskedValues.{same_itself}
use Rattle.rn_model.proofs.ValueLists.{one_if, count_of-cons, ordered_values_stay}
use Rattle.rn_model.proofs.ValueLists.{others_are_taken}

-- where a value is there, one is taken
one_shorter : (ws : List Value) (v : Value) → 0 < count_of v ws →
    suc (length (without_one ws v)) ≡ length ws
one_shorter [] v some = absurd (let no : ⊥ = omega (arith, some) in no)
one_shorter (w ∷ ws) v some = by (same_value v w) refl (one_shorter ws v)
  where
    by : (same : Bool) → same_value v w ≡ same →
        (0 < count_of v ws → suc (length (without_one ws v)) ≡ length ws) →
        suc (length (cond same ws (w ∷ without_one ws v))) ≡ length (w ∷ ws)
    by true e rest = refl
    by false e rest =
        let none : one_if (same_value v w) ≡ 0 = ap one_if e in
        let whole = count_of-cons v w ws in
        ap suc (rest (omega (arith, none, whole, some)))

-- what is within a list is within it without the first, where both lack that one
others_within : (v : Value) (vs ws : List Value) → IsWithin (v ∷ vs) ws →
    IsWithin vs (without_one ws v)
others_within v vs ws within z =
    let left = others_are_taken ws (v ∷ []) z in
    let one = count_of-cons z v [] in
    let own = count_of-cons z v vs in
    let at = within z in
    omega (arith, left, one, own, at)

-- a list within another is no longer
pub within_length : (vs ws : List Value) → IsWithin vs ws → length vs ≤ length ws
within_length [] ws within = omega arith
within_length (v ∷ vs) ws within =
    let own = count_of-cons v v vs in
    let same : one_if (same_value v v) ≡ 1 = ap one_if (same_itself v) in
    let at = within v in
    let some : 0 < count_of v ws = omega (arith, own, same, at) in
    let shorter = one_shorter ws v some in
    let rest = within_length vs (without_one ws v) (others_within v vs ws within) in
    omega (arith, shorter, rest)

-- where each value is as often in both, both are as long
pub counts_length : (vs ws : List Value) → ((v : Value) → count_of v vs ≡ count_of v ws) →
    length vs ≡ length ws
counts_length vs ws same =
    let there = within_length vs ws (λ v. let e = same v in omega (arith, e)) in
    let back = within_length ws vs (λ v. let e = same v in omega (arith, e)) in
    omega (arith, there, back)

-- in order they are as many
pub ordered_length : (vs : List Value) → length (ordered_values vs) ≡ length vs
ordered_length vs = counts_length (ordered_values vs) vs (ordered_values_stay vs)

pub joined_counts : (v : Value) (vs ws : List Value) →
    count_of v (vs ++ ws) ≡ count_of v vs + count_of v ws
joined_counts v vs ws = sum_by-append (λ y. one_if (same_value v y)) vs ws

-- where each value is as often as in two together, the lengths are so too
pub joined_length : (whole vs ws : List Value) →
    ((v : Value) → count_of v whole ≡ count_of v vs + count_of v ws) →
    length whole ≡ length vs + length ws
joined_length whole vs ws same =
    counts_length whole (vs ++ ws) (λ v. same v ∙ sym (joined_counts v vs ws))
    ∙ length-append vs ws

-- so are the lengths of what is left and taken, and of what was there and came
pub moved_length : (after taken cleared before put : List Value) →
    ((v : Value) → count_of v after + count_of v taken + count_of v cleared
    ≡ count_of v before + count_of v put) →
    length after + length taken + length cleared ≡ length before + length put
moved_length after taken cleared before put same =
    let gone = length-append after taken in
    let all = length-append (after ++ taken) cleared in
    let joined = joined_length ((after ++ taken) ++ cleared) before put (λ v.
    joined_counts v (after ++ taken) cleared
    ∙ ap (λ k. k + count_of v cleared) (joined_counts v after taken) ∙ same v) in
    omega (arith, gone, all, joined)
