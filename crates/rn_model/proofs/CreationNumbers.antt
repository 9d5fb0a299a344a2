-- The numbers that are kept for creations.
use Rattle.std.proofs.Common.{◌≡◌, ℕ, ◌+◌, suc, Bool, true, false, cond, List, [], ◌∷◌, length, refl, ap, ◌∙◌, arith, Some, None}
use Rattle.std.specs.Prelude.{◌&&◌, not, nat_eq, nat_lt}
use Rattle.std.specs.Cmp.Lexicographic.{pointwise, slice_cmp}
use Rattle.std.specs.List.{position_from, position_or_len}
use Rattle.std.specs.Ordering.{nat_cmp, ordering_then, is_eq}
use Rattle.std.specs.declared.cmp.Ordering.{Ordering}
use Rattle.std.specs.declared.cmp.Ordering.TheVariants.{Less, Equal, Greater}
use Rattle.std.proofs.lemmas.Bool.Decides.{nat_tests}
use Rattle.std.proofs.lemmas.Map.Text.{is_eq-slice_cmp}
use Rattle.rn_model.specs.declared.numbers.MadeBy.{MadeBy}
use Rattle.rn_model.specs.declared.numbers.Numbers.{Numbers}
use Rattle.rn_model.specs.contracts.numbers.MadeByOrd.TheImpl as order
use Rattle.rn_model.specs.Numbers.{AreNumbersOf, makes, number_in}

both_equal : (a b : Ordering) → is_eq (ordering_then a b) ≡ is_eq a && is_eq b
both_equal Less b = refl
both_equal Equal b = refl
both_equal Greater b = refl

same_index : (i j : ℕ) → is_eq (nat_cmp i j) ≡ nat_eq i j
same_index i j = grind (arith, nat_tests)

-- creations compare as equal where they are of one path and index
pub same_creation : (m : MadeBy) (path : List ℕ) (j : ℕ) →
    is_eq (order.ghosts.cmp m (record { path = path; index = j })) ≡ makes path j m
same_creation m path j =
    both_equal (slice_cmp nat_cmp m.path path) (nat_cmp m.index j)
    ∙ ap (λ b. b && is_eq (nat_cmp m.index j)) (is_eq-slice_cmp m.path path)
    ∙ ap (λ b. pointwise nat_eq m.path path && b) (same_index m.index j)

-- with one more creation before those that have numbers
pub one_before : (m : MadeBy) (rest : List MadeBy) (n : ℕ) (before after : Numbers) →
    AreNumbersOf rest (n + 1) before →
    ((path : List ℕ) (j : ℕ) →
    number_in after path j ≡ cond (makes path j m) (Some n) (number_in before path j)) →
    AreNumbersOf (m ∷ rest) n after
one_before m rest n before after have put path j =
    put path j ∙ ap (λ o. cond (makes path j m) (Some n) o) (have path j)

-- the first of those that pass, counted from a number
pub counted_from : {X : Type 0} (test : X → Bool) (n : ℕ) (xs : List X) →
    position_from test n xs
    ≡ cond (nat_lt (position_or_len test xs) (length xs)) (Some (n + position_or_len test xs)) None
counted_from test n [] = refl
counted_from {X} test n (x ∷ xs) = by (test x) (counted_from test (n + 1) xs)
  where
    by : (b : Bool) → position_from test (n + 1) xs
        ≡ cond (nat_lt (position_or_len test xs) (length xs)) (Some (n + 1 + position_or_len test xs)) None →
        cond b (Some n) (position_from test (n + 1) xs)
        ≡ cond (nat_lt (cond (not b) (1 + position_or_len test xs) 0) (suc (length xs)))
        (Some (n + cond (not b) (1 + position_or_len test xs) 0)) None
    by true rest = grind (arith, nat_tests)
    by false rest = grind (arith, nat_tests, rest)
