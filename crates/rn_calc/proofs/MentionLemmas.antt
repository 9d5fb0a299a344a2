-- Which numbers stand in both of two lists.
use Rattle.std.proofs.Common.{◌≡◌, ℕ, Bool, true, false, ◌||◌, List, [], ◌∷◌, refl, sym, ap}
use Rattle.std.proofs.Common.{◌∙◌}
use Rattle.std.specs.Prelude.{nat_eq}
use Rattle.std.specs.List.{list_any}

or_any : {X : Type 0} (p q : X → Bool) (xs : List X) →
    (list_any p xs || list_any q xs) ≡ list_any (λ x. p x || q x) xs
or_any p q [] = refl
or_any p q (x ∷ xs) = by_cases (p x) (q x) (list_any p xs) (list_any q xs) ∙ ap
    (λ b. (p x || q x) || b) (or_any p q xs)
  where
    by_cases : (a b c d : Bool) → ((a || c) || (b || d)) ≡ ((a || b) || (c || d))
    by_cases true b c d = refl
    by_cases false true true d = refl
    by_cases false true false d = refl
    by_cases false false c d = refl

none_any : {X : Type 0} (xs : List X) → list_any (λ x. false) xs ≡ false
none_any [] = refl
none_any (x ∷ xs) = none_any xs

-- some of these is among those exactly where some of those is among these
pub either_way : (xs ys : List ℕ) →
    list_any (λ x. list_any (λ y. nat_eq y x) ys) xs ≡ list_any (λ y. list_any (nat_eq y) xs) ys
either_way [] ys = sym (none_any ys)
either_way (x ∷ xs) ys =
    ap (λ b. list_any (λ y. nat_eq y x) ys || b) (either_way xs ys)
    ∙ or_any (λ y. nat_eq y x) (λ y. list_any (nat_eq y) xs) ys
