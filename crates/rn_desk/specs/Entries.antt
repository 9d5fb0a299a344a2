-- Lists of entries, and who authored them.
use Rattle.std.specs.Prelude.{◌≡◌, ◌≢◌, ◌⊎◌, ℕ, ◌==◌, List, [], ◌∷◌, ◌++◌, filter}

-- the first list begins with the second
abbrev pub StartsWith : {A : Type 0} → List A → List A → Type 0
StartsWith {A} xs ys = (rest : List A) × (xs ≡ ys ++ rest)

-- the entries that this number authored, in order
abbrev pub authored : {I : Type 0} → (I → ℕ) → ℕ → List I → List I
authored author n = filter (λ e. author e == n)

-- the entries are those from before, or one more at the end, which this number authored or none
abbrev pub AddsAtMostOne : {I : Type 0} → (I → ℕ) → ℕ → List I → List I → Type 0
AddsAtMostOne {I} author n before after = (after ≡ before)
    ⊎ ((e : I) × (after ≡ before ++ e ∷ []) × ((author e ≡ n) ⊎ (author e ≡ 0)))

-- what this number authored grows by the new entry where it is the author, and else stays
abbrev pub GrowsOwn : {I : Type 0} → (I → ℕ) → ℕ → List I → List I → List I → List I → Type 0
GrowsOwn {I} author n before after own own' = (after ≡ before → own' ≡ own)
    × ((e : I) → after ≡ before ++ e ∷ []
    → (author e ≡ n → own' ≡ own ++ e ∷ []) × (author e ≢ n → own' ≡ own))
