-- Lists in chunks of 32. They only connect the code to the marking.
use Rattle.std.specs.Prelude.{◌≡◌, ◌<◌, ◌≤◌, ⊤, List, [], ◌∷◌, length, flat_map}
use Rattle.rn_table.specs.declared.places.TheConstants.{PLACES}

-- all chunks, one after another
abbrev pub joined : {A : Type 0} → List (List A) → List A
joined = flat_map (λ xs. xs)

-- a chunk has at most 32 elements, and fewer only where it is the last
abbrev pub AreChunks : {A : Type 0} → List (List A) → Type 0
AreChunks [] = ⊤
AreChunks (xs ∷ rest) =
    ((length xs ≤ PLACES) × (0 < length rest → length xs ≡ PLACES)) × AreChunks rest
