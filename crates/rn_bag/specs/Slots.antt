-- Lists of slots, of which some hold a token.
use Rattle.std.specs.Prelude.{ℕ, suc, Bool, if◌then◌else◌, List, [], ◌∷◌}

-- the items whose indices pass the test, where the first has index n
abbrev pub there_from : {A : Type 0} → (ℕ → Bool) → ℕ → List A → List A
there_from there n [] = []
there_from there n (x ∷ xs) =
    if there n then x ∷ there_from there (suc n) xs else there_from there (suc n) xs
