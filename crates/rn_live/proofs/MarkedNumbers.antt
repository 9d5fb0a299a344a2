-- The numbers that are marked, in order.
use Rattle.std.proofs.Common.{◌≡◌, ℕ, zero, suc, ◌+◌, ◌<◌, ◌≤◌, Bool, true, false, List, [], ◌∷◌, length, refl, sym, ap, ◌∙◌, subst, inl, inr, arith}
use Rattle.std.specs.Prelude.{◌⊎◌, ◌↔◌, Contains, cond, slice_index, slice_index_or}
use Rattle.std.specs.List.{count_by}
use Rattle.std.specs.List.Sorted.{IsStrictlyIncreasing}
use Rattle.std.proofs.lemmas.List.Recursion.{is_count_by}
use Rattle.rn_live.specs.Rooms.{is_marked, marked_from}
use Rattle.rn_live.proofs.ListingLemmas.{first_or_later}
use Rattle.rn_model.proofs.AskedValues.{later}
use Rattle.rn_model.proofs.EnablingLemmas.{not_in_nil}

-- as many from whichever number
same_count : (n k : ℕ) (marks : List Bool) → length (marked_from n marks) ≡ length (marked_from k marks)
same_count n k [] = refl
same_count n k (true ∷ marks) = ap suc (same_count (n + 1) (k + 1) marks)
same_count n k (false ∷ marks) = same_count (n + 1) (k + 1) marks

one_more : (mark : Bool) (marks : List Bool) → length (marked_from 0 (mark ∷ marks)) ≡ cond mark (1 + length (marked_from 0 marks)) (length (marked_from 0 marks))
one_more true marks = let same = same_count 1 0 marks in omega (arith, same)
one_more false marks = same_count 1 0 marks

-- as many as there are marks
pub marked_count : (marks : List Bool) → length (marked_from 0 marks) ≡ count_by (λ mark. mark) marks
marked_count marks = is_count_by (λ ms. length (marked_from 0 ms)) (λ mark. mark) refl one_more marks

-- each is a number whose mark is set
marked_there : (n : ℕ) (marks : List Bool) (k : ℕ) → Contains (marked_from n marks) k → (j : ℕ) × (k ≡ n + j) × (is_marked marks j ≡ true)
marked_there n [] k there = absurd (not_in_nil k there)
marked_there n (true ∷ marks) k there = elim (first_or_later n (marked_from (n + 1) marks) k there) as (λ _. (j : ℕ) × (k ≡ n + j) × (is_marked (true ∷ marks) j ≡ true)) [
  | inl same ↦ (0, omega (arith, same), refl)
  | inr rest ↦ let found = marked_there (n + 1) marks k rest in (suc found.0, omega (arith, found.1), found.2)
]
marked_there n (false ∷ marks) k there = let found = marked_there (n + 1) marks k there in (suc found.0, omega (arith, found.1), found.2)

-- and each such number is there
there_marked : (n : ℕ) (marks : List Bool) (j : ℕ) → is_marked marks j ≡ true → Contains (marked_from n marks) (n + j)
there_marked n [] j is = absurd (let no : ⊥ = cc in no)
there_marked n (true ∷ marks) zero is = (0, omega arith, omega arith)
there_marked n (false ∷ marks) zero is = absurd (let no : ⊥ = cc in no)
there_marked n (true ∷ marks) (suc j) is =
    later n (n + suc j) (marked_from (n + 1) marks)
    (subst (λ k. Contains (marked_from (n + 1) marks) k) (omega arith) (there_marked (n + 1) marks j is))
there_marked n (false ∷ marks) (suc j) is =
    subst (λ k. Contains (marked_from (n + 1) marks) k) (omega arith) (there_marked (n + 1) marks j is)

pub marked_listed : (marks : List Bool) (k : ℕ) → Contains (marked_from 0 marks) k ↔ (is_marked marks k ≡ true)
marked_listed marks k = (
  λ there.
      let found = marked_there 0 marks k there in
      let same : found.0 ≡ k = omega (arith, found.1) in
      subst (λ j. is_marked marks j ≡ true) same found.2,
  λ is. subst (λ j. Contains (marked_from 0 marks) j) (omega arith) (there_marked 0 marks k is),
)

-- the first is none of those before
first_behind : (n : ℕ) (marks : List Bool) → 0 < length (marked_from n marks) → n ≤ slice_index (marked_from n marks) 0
first_behind n [] some = absurd (let no : ⊥ = omega (arith, some) in no)
first_behind n (true ∷ marks) some = omega arith
first_behind n (false ∷ marks) some = let rest = first_behind (n + 1) marks some in omega (arith, rest)

-- they ascend
pub marked_ascend : (n : ℕ) (marks : List Bool) → IsStrictlyIncreasing (marked_from n marks)
marked_ascend n [] k within = absurd (let no : ⊥ = omega (arith, within) in no)
marked_ascend n (true ∷ marks) zero within =
    let rest = first_behind (n + 1) marks (omega (arith, within)) in omega (arith, rest)
marked_ascend n (true ∷ marks) (suc k) within =
    let next : suc (k + 1) ≡ suc k + 1 = omega arith in
    subst (λ j. slice_index (marked_from n (true ∷ marks)) (suc k) < slice_index (marked_from n (true ∷ marks)) j) next
    (marked_ascend (n + 1) marks k (omega (arith, within)))
marked_ascend n (false ∷ marks) k within = marked_ascend (n + 1) marks k within
