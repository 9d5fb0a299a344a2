-- Paths with one more number: comparing two of them, and the key of one.
use Rattle.std.proofs.Common.{◌≡◌, ℕ, ◌&&◌, List, [], ◌∷◌, ◌++◌, nat_eq, refl, sym, ap, ◌∙◌}
use Rattle.std.specs.Cmp.Lexicographic.{pointwise}
use Rattle.std.proofs.Math.Bool.{and-false, and-true, and_assoc}
use Rattle.rn_growing.specs.link.Keys.{stirred, all_stirred, path_key}

-- what is before their last numbers is compared, and these
pub one_more_each : (p q : List ℕ) (m n : ℕ) →
    pointwise nat_eq (p ++ m ∷ []) (q ++ n ∷ []) ≡ (pointwise nat_eq p q && nat_eq m n)
one_more_each [] [] m n = and-true (nat_eq m n)
one_more_each [] (b ∷ []) m n = and-false (nat_eq m b)
one_more_each [] (b ∷ c ∷ q) m n = and-false (nat_eq m b)
one_more_each (a ∷ []) [] m n = and-false (nat_eq a n)
one_more_each (a ∷ c ∷ p) [] m n = and-false (nat_eq a n)
one_more_each (a ∷ p) (b ∷ q) m n =
    ap (λ rest. nat_eq a b && rest) (one_more_each p q m n)
    ∙ sym (and_assoc (nat_eq a b) (pointwise nat_eq p q) (nat_eq m n))

all_more : (key : ℕ) (p : List ℕ) (n : ℕ) →
    all_stirred key (p ++ n ∷ []) ≡ stirred (all_stirred key p) n
all_more key [] n = refl
all_more key (m ∷ p) n = all_more (stirred key m) p n

-- the last number goes into the key of what is before it
pub key_of_more : (p : List ℕ) (n : ℕ) → path_key (p ++ n ∷ []) ≡ stirred (path_key p) n
key_of_more p n = all_more 1 p n
