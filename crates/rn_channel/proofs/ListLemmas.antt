-- Lists that are made element by element.
use Rattle.std.proofs.Common.{ℕ, ◌≡◌, ◌∙◌, ◌+◌, ◌<◌, List, [], ◌∷◌, ◌++◌, length, take, map, get_or, ap, sym}
use Rattle.std.proofs.lemmas.List.{take_more, map-append}

-- one more element, of the next one
pub map_more : {X Y : Type 0} (f : X → Y) (xs : List X) (i : ℕ) (x : X) (out : List Y) (y : Y) →
    i < length xs → x ≡ get_or xs i x → out ≡ map f (take i xs) → y ≡ f x →
    out ++ y ∷ [] ≡ map f (take (i + 1) xs)
map_more f xs i x out y within here is value =
    ap (λ l. l ++ y ∷ []) is
    ∙ ap (λ z. map f (take i xs) ++ z ∷ []) value
    ∙ sym (map-append f (take i xs) (x ∷ []))
    ∙ ap (map f) (ap (λ z. take i xs ++ z ∷ []) here ∙ sym (take_more xs i x within))
