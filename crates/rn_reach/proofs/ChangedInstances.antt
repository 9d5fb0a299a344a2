-- Instances that change, and those that reach one of them.
use Rattle.std.proofs.Common.{◌≡◌, ℕ, List, [], sym, ap, subst, inl, inr}
use Rattle.std.specs.Prelude.{◌⊎◌, Contains, slice_get, unwrap_or, option_and_then}
use Rattle.rn_model.specs.Markings.{Marking, instance_at, tokens_at}
use Rattle.rn_reach.specs.Reach.{RefersTo, Reach, itself, further, ReachesOne}
use Rattle.rn_reach.specs.Laws.{ChangesAreReachedInBoth, OthersStay}
use Rattle.rn_reach.proofs.ReachLemmas.{reach_decides}
use Rattle.rn_items.proofs.Numbers.{in_or_not}

-- what refers to an instance does so in each marking that has it as it is
refers_alike : (m other : Marking) (holder k : ℕ) → instance_at other holder ≡ instance_at m holder → RefersTo m holder k → RefersTo other holder k
refers_alike m other holder k same refers =
    let tokens : tokens_at other holder refers.place ≡ tokens_at m holder refers.place = ap (λ o. unwrap_or (option_and_then (λ i. slice_get i.places refers.place) o) []) same in
    record { place = refers.place; token = refers.token; there = subst (λ vs. Contains vs refers.token) (sym tokens) refers.there; occurs = refers.occurs }

module _ (m other : Marking) (changed : List ℕ) (n : ℕ) (same : (k : ℕ) → ¬ Contains changed k → instance_at other k ≡ instance_at m k) where
  -- on the way to an instance there is a changed one, or it is the same way in the other
  one_or_same : (k : ℕ) → Reach m n k → ReachesOne other changed n ⊎ Reach other n k
  one_or_same k itself = inr itself
  one_or_same k (further {holder = h} reach refers) = elim (one_or_same h reach) as (λ _. ReachesOne other changed n ⊎ Reach other n k) [
    | inl one ↦ inl one
    | inr way ↦ elim (in_or_not changed h) as (λ _. ReachesOne other changed n ⊎ Reach other n k) [
      | inl there ↦ inl (h, there, way)
      | inr not ↦ inr (further way (refers_alike m other h k (same h not) refers))
    ]
  ]

  reached_in_other : ReachesOne m changed n → ReachesOne other changed n
  reached_in_other reaches = elim (one_or_same reaches.0 reaches.2) as (λ _. ReachesOne other changed n) [
    | inl one ↦ one
    | inr way ↦ (reaches.0, reaches.1, way)
  ]

-- what reaches a changed instance before a change reaches one after it, and nothing else does
pub changes_are_reached_in_both : ChangesAreReachedInBoth
changes_are_reached_in_both m other changed same n =
    (reached_in_other m other changed n same, reached_in_other other m changed n (λ k not. sym (same k not)))

-- where one reaches none, the same bindings that start in it are enabled before and after
pub others_stay : OthersStay
others_stay system m other changed b depth n same none starts =
    reach_decides system m other b depth n (λ k reach. same k (λ there. none (k, there, reach))) starts
