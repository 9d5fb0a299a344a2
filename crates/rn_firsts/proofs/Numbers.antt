-- Numbers that come to a set.
use Rattle.std.proofs.Common.{◌≡◌, ◌<◌, ◌≤◌, ℕ, zero, suc, List, [], ◌∷◌, length, refl, sym, ap, ◌∙◌, subst, arith}
use Rattle.std.specs.Prelude.{All, Contains, Option, Some, None, IsSome, IfSome, ◌↔◌, false, slice_get}
use Rattle.std.proofs.lemmas.List.Elements.{All-contains}
use Rattle.std.specs.Ordering.{is_gt, nat_cmp, match_ordering}
use Rattle.std.specs.BTreeSet.{insert_key}
use Rattle.std.specs.declared.cmp.Ordering.{Ordering}
use Rattle.std.specs.declared.cmp.Ordering.TheVariants.{Less, Equal, Greater}
use Rattle.std.proofs.lemmas.Cmp.{ranked}

later : (x : ℕ) (xs : List ℕ) (n : ℕ) → Contains xs n → Contains (x ∷ xs) n
later x xs n (k, within, at) = (suc k, omega (arith, within), at)

first_is : (x : ℕ) (xs : List ℕ) → Contains (x ∷ xs) x
first_is x xs = (zero, omega arith, refl)

-- those that are there stay
pub insert_keeps : (xs : List ℕ) (k n : ℕ) → Contains xs n → Contains (insert_key nat_cmp xs k) n
insert_keeps [] k n has = later k [] n has
insert_keeps (x ∷ xs) k n has = by (nat_cmp k x) (insert_keeps xs k n) has
  where
    by : (o : Ordering) → (Contains xs n → Contains (insert_key nat_cmp xs k) n) →
        Contains (x ∷ xs) n →
        Contains (match_ordering o (k ∷ x ∷ xs) (x ∷ xs) (x ∷ insert_key nat_cmp xs k)) n
    by Less rest has = later k (x ∷ xs) n has
    by Equal rest has = has
    by Greater rest (zero, within, at) = (zero, omega arith, at)
    by Greater rest (suc i, within, at) =
        later x (insert_key nat_cmp xs k) n (rest (i, omega (arith, within), at))

-- the new one is there
pub insert_has : (xs : List ℕ) (k : ℕ) → Contains (insert_key nat_cmp xs k) k
insert_has [] k = first_is k []
insert_has (x ∷ xs) k = by (nat_cmp k x) refl (insert_has xs k)
  where
    by : (o : Ordering) → nat_cmp k x ≡ o → Contains (insert_key nat_cmp xs k) k →
        Contains (match_ordering o (k ∷ x ∷ xs) (x ∷ xs) (x ∷ insert_key nat_cmp xs k)) k
    by Less e rest = first_is k (x ∷ xs)
    by Equal e rest =
        let same : k ≡ x = ranked k x Equal (sym e) in
        subst (Contains (x ∷ xs)) (sym same) (first_is x xs)
    by Greater e rest = later x (insert_key nat_cmp xs k) k rest

-- what isn't greater than one is up to it
not_greater : (k n : ℕ) (o : Ordering) → o ≡ nat_cmp k n → is_gt o ≡ false → k ≤ n
not_greater k n Less e not = let less : k < n = ranked k n Less e in omega arith
not_greater k n Equal e not = let same : k ≡ n = ranked k n Equal e in omega arith
not_greater k n Greater e not = absurd (let no : ⊥ = cc in no)

-- the first of a set is the least
pub least_of_them : (xs : List ℕ) (k n : ℕ) → All (λ n. is_gt (nat_cmp k n) ≡ false) xs →
    Contains xs n → k ≤ n
least_of_them xs k n all has =
    not_greater k n (nat_cmp k n) refl (All-contains (λ n. is_gt (nat_cmp k n) ≡ false) xs n all has)

-- the first of some is one of them
pub got_first : (xs : List ℕ) (k : ℕ) → slice_get xs 0 ≡ Some k → Contains xs k
got_first [] k is = absurd (let no : ⊥ = cc in no)
got_first (x ∷ xs) k is = let same : x ≡ k = cc in (zero, omega arith, same)

-- what is left after it
pub without_first : (xs rest : List ℕ) (k n : ℕ) → slice_get xs 0 ≡ Some k → xs ≡ n ∷ rest →
    xs ≡ k ∷ rest
without_first xs rest k n is are =
    let got : slice_get (n ∷ rest) 0 ≡ Some k = subst (λ ys. slice_get ys 0 ≡ Some k) are is in
    let same : n ≡ k = cc in
    are ∙ ap (λ y. y ∷ rest) same

some_first : (xs : List ℕ) (k : ℕ) → slice_get xs 0 ≡ Some k → 0 < length xs
some_first [] k is = absurd (let no : ⊥ = cc in no)
some_first (x ∷ xs) k is = omega arith

-- what is left where the first of some goes
pub popped : (gone : Option ℕ) (xs rest : List ℕ) (k : ℕ) → (IsSome gone ↔ (0 < length xs)) →
    IfSome gone (λ n. xs ≡ n ∷ rest) → slice_get xs 0 ≡ Some k → xs ≡ k ∷ rest
popped None xs rest k some are is =
    absurd (let there = some.1 (some_first xs k is) in let no : ⊥ = cc in no)
popped (Some n) xs rest k some are is = without_first xs rest k n is are
