-- How many values the items of a mark are.
use Rattle.std.proofs.Common.{◌≡◌, ℕ, zero, suc, ◌+◌, ◌<◌, ◌≤◌, ◌^◌, Bool, true, false, cond, List, [], ◌∷◌, length, map, take, get_or, refl, sym, subst, arith}
use Rattle.std.specs.Prelude.{nat_eq, nat_le, Some, None}
use Rattle.std.proofs.lemmas.List.{length-append, length-replicate}
use Rattle.std.proofs.lemmas.Bool.Decides.{nat_tests}
use borrow.Author.Tests.{eqb-true}
use Rattle.rn_items.proofs.Bools.{and_left, and_right}
use Rattle.rn_lines.specs.LineText.{Held, count_of, times_of}
use Rattle.rn_record_reader.specs.Marks.{held_values, values_told, size_of, are_single, are_parted, fits_format, counted_after, most_told_values}

-- as many values are told
pub values_are : (items : List Held) → length (values_told items) ≡ size_of items
values_are [] = refl
values_are (h ∷ hs) =
    let here = length-replicate (times_of h) h.token.value in
    let rest = values_are hs in
    let both = length-append (held_values h) (values_told hs) in
    omega (arith, here, rest, both)

-- without counts they are as many as the items
once : (times : List ℕ) → nat_eq (length times) 0 ≡ true → count_of times ≡ 1
once [] none = refl
once (d ∷ ds) none = absurd (let no = eqb-true (length (d ∷ ds)) 0 none in omega (arith, no))

pub singles_are : (items : List Held) → are_single items ≡ true → size_of items ≡ length items
singles_are [] single = refl
singles_are (h ∷ hs) single =
    let here = once h.times (and_left (nat_eq (length h.times) 0) (are_single hs) single) in
    let rest = singles_are hs (and_right (nat_eq (length h.times) 0) (are_single hs) single) in
    omega (arith, here, rest)

-- so values that fit a format, and aren't too many, can be counted
pub few_values : (format held : ℕ) (items : List Held) → fits_format format items ≡ true → length items < 2 ^ 64 →
    counted_after format held items ≤ most_told_values → size_of items < 2 ^ 64
few_values format held items fits short few = by (nat_eq format 1) fits few
  where
    by : (first : Bool) → cond first (are_single items) (are_parted items) ≡ true → cond first held (held + size_of items) ≤ most_told_values →
        size_of items < 2 ^ 64
    by true fits few = let size = singles_are items fits in omega (arith, size, short)
    by false fits few = omega (arith, few)

-- what is counted isn't too much
pub is_counted : (n m : ℕ) → Some m ≡ cond (nat_le n most_told_values) (Some n) None → n ≤ most_told_values
is_counted n m e = by (nat_le n most_told_values) refl e
  where
    by : (within : Bool) → nat_le n most_told_values ≡ within → Some m ≡ cond within (Some n) None → n ≤ most_told_values
    by true is e = grind (arith, nat_tests)
    by false is e = absurd (let no : ⊥ = cc in no)

-- what stands at one place is among all
here_within : {X : Type 0} (f : X → Held) (xs : List X) (i : ℕ) (d : X) → i < length xs →
    size_of (map f (take i xs)) + times_of (f (get_or xs i d)) ≤ size_of (map f xs)
here_within f [] i d low = absurd (omega (arith, low))
here_within f (x ∷ xs) zero d low = omega arith
here_within f (x ∷ xs) (suc i) d low = let rest = here_within f xs i d (omega (arith, low)) in omega (arith, rest)

pub within : {X : Type 0} (f : X → Held) (xs : List X) (i : ℕ) (x : X) → i < length xs → x ≡ get_or xs i x →
    size_of (map f (take i xs)) + times_of (f x) ≤ size_of (map f xs)
within f xs i x low is =
    subst (λ y. size_of (map f (take i xs)) + times_of (f y) ≤ size_of (map f xs)) (sym is) (here_within f xs i x low)
