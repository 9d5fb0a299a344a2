-- Texts of elements, one after another.
use Rattle.std.proofs.Common.{◌≡◌, ℕ, zero, suc, ◌+◌, List, [], ◌∷◌, ◌++◌, replicate, refl, sym, ap, ◌∙◌, append_assoc, append-nil, add-one}
use Rattle.std.specs.List.{flat_map}
use Rattle.std.proofs.lemmas.Grind.{flat_map-append}

-- texts of elements of elements
pub nested : {X Y A : Type 0} (f : Y → List A) (of : X → List Y) (xs : List X) →
    flat_map f (flat_map of xs) ≡ flat_map (λ x. flat_map f (of x)) xs
nested f of [] = refl
nested f of (x ∷ xs) =
    flat_map-append f (of x) (flat_map of xs) ∙ ap (λ rest. flat_map f (of x) ++ rest) (nested f of xs)

-- one time more
pub once_more : {X A : Type 0} (f : X → List A) (x : X) (n : ℕ) →
    flat_map f (replicate n x) ++ f x ≡ flat_map f (replicate (n + 1) x)
once_more f x n = suc_more n ∙ ap (λ k. flat_map f (replicate k x)) (sym (add-one n))
  where
    suc_more : (n : ℕ) → flat_map f (replicate n x) ++ f x ≡ flat_map f (replicate (suc n) x)
    suc_more zero = sym (append-nil (f x))
    suc_more (suc n) = append_assoc (f x) (flat_map f (replicate n x)) (f x) ∙ ap (λ rest. f x ++ rest) (suc_more n)
