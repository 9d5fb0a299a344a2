-- How many elements lists have together.
use Rattle.std.proofs.Common.{◌≡◌, ◌<◌, ◌≤◌, ◌+◌, ◌-◌, ◌*◌, ◌∙◌, ℕ, zero, suc, List, [], ◌∷◌, ◌++◌}
use Rattle.std.proofs.Common.{length, get_or, length-append, sym, ap, subst, arith}
use Rattle.std.specs.Prelude.{All, flat_map, slice_set, take}
use Rattle.std.proofs.lemmas.List.{get_or_default, take_more}
use Rattle.std.proofs.lemmas.List.Elements.{All-head, All-tail, All-set, All-push}
use Rattle.rn_incr.specs.link.Kept.{IsSum}

abbrev pub joined : {X : Type 0} → List (List X) → List X
joined = flat_map (λ xs. xs)

-- a list has fewer than 2^64 elements
abbrev pub IsShort : {X : Type 0} → List X → Type 0
IsShort xs = length xs ≤ 18446744073709551615

pub sum_bound : {X : Type 0} (lists : List (List X)) → All IsShort lists →
    length (joined lists) ≤ length lists * 18446744073709551615
sum_bound [] all = omega arith
sum_bound (xs ∷ lists) all =
    let here = All-head IsShort xs lists all in
    let rest = sum_bound lists (All-tail IsShort xs lists all) in
    let is = length-append xs (joined lists) in
    omega (arith, here, rest, is)

pub part_of_sum : {X : Type 0} (lists : List (List X)) (i : ℕ) → i < length lists →
    length (get_or lists i []) ≤ length (joined lists)
part_of_sum [] i h = absurd (let no : ⊥ = omega (arith, h) in no)
part_of_sum (xs ∷ lists) zero h = let is = length-append xs (joined lists) in omega (arith, is)
part_of_sum (xs ∷ lists) (suc i) h =
    let rest = part_of_sum lists i (omega (arith, h)) in
    let is = length-append xs (joined lists) in
    omega (arith, rest, is)

pub sum_of_set : {X : Type 0} (lists : List (List X)) (i : ℕ) (new : List X) → i < length lists →
    length (joined (slice_set lists i new)) + length (get_or lists i [])
    ≡ length (joined lists) + length new
sum_of_set [] i new h = absurd (let no : ⊥ = omega (arith, h) in no)
sum_of_set (xs ∷ lists) zero new h =
    let before = length-append xs (joined lists) in
    let after = length-append new (joined lists) in
    omega (arith, before, after)
sum_of_set (xs ∷ lists) (suc i) new h =
    let rest = sum_of_set lists i new (omega (arith, h)) in
    let before = length-append xs (joined lists) in
    let after = length-append xs (joined (slice_set lists i new)) in
    omega (arith, rest, before, after)

-- one list more
joined_push : {X : Type 0} (lists : List (List X)) (list : List X) →
    length (joined (lists ++ list ∷ [])) ≡ length (joined lists) + length list
joined_push [] list = let is = length-append list [] in omega (arith, is)
joined_push (xs ∷ lists) list =
    let rest = joined_push lists list in
    let before = length-append xs (joined lists) in
    let after = length-append xs (joined (lists ++ list ∷ [])) in
    omega (arith, rest, before, after)

-- the sum so far
pub count_more : {X : Type 0} (lists : List (List X)) (i count n : ℕ) (list : List X) →
    i < length lists → list ≡ get_or lists i list → n ≡ length list → n ≤ 18446744073709551615 →
    (count ≡ length (joined (take i lists))) × (count ≤ i * 18446744073709551615)
    × All IsShort (take i lists) →
    (count + n ≡ length (joined (take (i + 1) lists)))
    × (count + n ≤ (i + 1) * 18446744073709551615) × All IsShort (take (i + 1) lists)
count_more lists i count n list within is long fits was =
    let taken : take (i + 1) lists ≡ take i lists ++ list ∷ [] =
    take_more lists i list within ∙ ap (λ xs. take i lists ++ xs ∷ []) (sym is) in
    let sum = joined_push (take i lists) list in
    let all = ap (λ ls. length (joined ls)) taken in
    let so_far = was.0 in
    let bound = was.1 in (
      omega (arith, sum, all, so_far, long),
      omega (arith, bound, fits),
      subst (All IsShort) (sym taken)
          (All-push IsShort (take i lists) list was.2 (omega (arith, long, fits))),
    )

-- A new list in the place of an old one.
module _ {X : Type 0} (lists : List (List X)) (i total long : ℕ) (old : List X)
    (within : i < length lists) (sum : IsSum lists total) (is : old ≡ get_or lists i old)
    (count : long ≡ length old) where
  here : length (get_or lists i []) ≡ long
  here = ap length (get_or_default lists i [] old within ∙ sym is) ∙ sym count

  pub part_within : long ≤ total
  part_within =
      let part = part_of_sum lists i within in
      let all = sum.sum in
      let same = here in
      omega (arith, part, all, same)

  pub sum_put : (new : List X) (n : ℕ) → n ≡ length new → n ≤ 18446744073709551615 →
      IsSum (slice_set lists i new) (total - long + n)
  sum_put new n size fits =
      let part = part_of_sum lists i within in
      let after = sum_of_set lists i new within in
      let all = sum.sum in
      let same = here in
      record {
        sum = omega (arith, part, after, all, same, size);
        short = All-set IsShort lists i new (omega (arith, size, fits)) sum.short;
      }

  pub sum_fits : (n : ℕ) → length lists ≤ 18446744073709551615 → n ≤ 18446744073709551615 →
      total - long + n ≤ 340282366920938463444927863358058659840
  sum_fits n few fits =
      let bound = sum_bound lists sum.short in
      let all = sum.sum in
      omega (arith, bound, all, few, fits)

-- an empty list at the end
pub sum_longer : {X : Type 0} (lists : List (List X)) (total : ℕ) → IsSum lists total →
    IsSum (lists ++ [] ∷ []) total
sum_longer lists total is =
    let sum = joined_push lists [] in
    let all = is.sum in
    record {
      sum = omega (arith, sum, all);
      short = All-push IsShort lists [] is.short (omega arith);
    }
