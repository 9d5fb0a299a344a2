-- Slices, element by element.
use Rattle.std.proofs.Common.{◌≡◌, ℕ, ◌+◌, ◌-◌, ◌<◌, ◌≤◌, zero, suc, List, [], ◌∷◌, length, map, take, drop, get_or, refl, ap, sym, ◌∙◌, arith}
use Rattle.std.specs.Prelude.{All}
use Rattle.std.proofs.lemmas.List.{take_all}
use Rattle.std.proofs.lemmas.List.Elements.{All-nil, All-cons, All-head, All-tail}

-- what holds of each changed element
pub at_changed : {X Y : Type 0} (P : Y → Type 0) (f : X → Y) (xs : List X) → All P (map f xs) → All (λ x. P (f x)) xs
at_changed P f [] h = All-nil (λ x. P (f x))
at_changed P f (x ∷ xs) h =
    All-cons (λ y. P (f y)) x xs (All-head P (f x) (map f xs) h) (at_changed P f xs (All-tail P (f x) (map f xs) h))

-- an element, and those behind it
pub drop_item : {X : Type 0} (xs : List X) (i : ℕ) (x d : X) → i < length xs → x ≡ get_or xs i d → drop i xs ≡ x ∷ drop (i + 1) xs
drop_item [] i x d h e = absurd (omega arith)
drop_item (y ∷ ys) zero x d h e = ap (λ z. z ∷ ys) (sym e)
drop_item (y ∷ ys) (suc i) x d h e =
    let next : suc (i + 1) ≡ suc i + 1 = omega arith in
    drop_item ys i x d (omega arith) e ∙ ap (λ n. x ∷ drop n (y ∷ ys)) next

-- the first element, and those behind it
pub first_and_rest : {X : Type 0} (xs : List X) (x : X) → 1 ≤ length xs → x ≡ get_or xs 0 x → xs ≡ x ∷ take (length xs - 1) (drop 1 xs)
first_and_rest [] x h e = absurd (omega arith)
first_and_rest (y ∷ ys) x h e =
    let all : length ys ≤ suc (length ys) - 1 = omega arith in
    ap (λ z. z ∷ ys) (sym e) ∙ ap (λ zs. x ∷ zs) (sym (take_all (suc (length ys) - 1) ys all))

pub no_elements : {X : Type 0} (xs : List X) → length xs < 1 → xs ≡ []
no_elements [] h = refl
no_elements (x ∷ xs) h = absurd (omega arith)
