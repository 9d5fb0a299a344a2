-- What follows where nothing is broken.
use Rattle.std.proofs.Common.{◌≡◌, ℕ, ◌≤◌, Bool, true, false, not, List, [], ◌∷◌, ◌++◌}
use Rattle.std.proofs.Common.{refl, length, inl, inr}
use Rattle.std.specs.Prelude.{flat_map}
use Rattle.std.specs.List.{AllByRecursion}
use Rattle.std.proofs.lemmas.Option.{slice_get_cases}
use Rattle.rn_notation.specs.declared.token.Spot.{Spot}
use Rattle.rn_declared.specs.declared.fault.Rule.{Rule}
use Rattle.rn_declared.specs.declared.fault.Rule.TheVariants as R
use Rattle.rn_declared.specs.Faults.{broken_if, past, past_limit}

-- where two lists together are empty, both are
pub both_nil : {A : Type 0} (xs ys : List A) → xs ++ ys ≡ [] → (xs ≡ []) × (ys ≡ [])
both_nil [] ys e = (refl, e)
both_nil (x ∷ xs) ys e = absurd (let no : ⊥ = cc in no)

-- where the lists of all elements, joined, are empty, each of them is
pub each_nil : {A B : Type 0} (f : A → List B) (xs : List A) → flat_map f xs ≡ [] →
    AllByRecursion (λ x. f x ≡ []) xs
each_nil f [] e = tt
each_nil f (x ∷ xs) e =
    let both = both_nil (f x) (flat_map f xs) e in
    (both.0, each_nil f xs both.1)

-- what is broken under a condition isn't, where nothing is
pub unbroken : (b : Bool) (rule : Rule) (spot : Spot) → broken_if b rule spot ≡ [] → b ≡ false
unbroken true rule spot e = absurd (let no : ⊥ = cc in no)
unbroken false rule spot e = refl

-- and what has to hold does
pub holds : (b : Bool) (rule : Rule) (spot : Spot) → broken_if (not b) rule spot ≡ [] → b ≡ true
holds true rule spot e = refl
holds false rule spot e = absurd (let no : ⊥ = cc in no)

-- where a rule isn't broken past so many, there aren't more
pub none_past : (rule : Rule) (most : ℕ) (spots : List Spot) → past rule most spots ≡ [] →
    length spots ≤ most
none_past rule most spots e =
    elim (slice_get_cases spots most).1 [
      | inl (s, more, is, at) ↦ absurd (let no : ⊥ = cc in no)
      | inr (few, none) ↦ few
    ]

-- so where no limit is passed there aren't more
pub within_limit : (most : ℕ) (spots : List Spot) → past_limit most spots ≡ [] →
    length spots ≤ most
within_limit most spots e = none_past R.Limit most spots e
