-- What holds of each element of a list that is made from others.
use Rattle.std.proofs.Common.{◌≡◌, ℕ, zero, suc, ◌+◌, Bool, true, false, List, [], ◌∷◌, ◌++◌, map, refl, subst, arith}
use Rattle.std.specs.Prelude.{Some, filter, flat_map, slice_get, if◌then◌else◌}
use Rattle.std.specs.List.{All, AllZip, AllByRecursion, enumerate_from}

-- what holds of each element of two lists holds of each of the joined list
pub each_append : {X : Type 0} (P : X → Type 0) (xs ys : List X) → AllByRecursion P xs → AllByRecursion P ys → AllByRecursion P (xs ++ ys)
each_append P [] ys p q = q
each_append P (x ∷ xs) ys p q = (p.0, each_append P xs ys p.1 q)

-- what holds of all that elements are mapped to holds of each element of the mapped list
pub each_map : {X Y : Type 0} (P : Y → Type 0) (f : X → Y) (xs : List X) → AllByRecursion (λ x. P (f x)) xs → AllByRecursion P (map f xs)
each_map P f [] p = tt
each_map P f (x ∷ xs) p = (p.0, each_map P f xs p.1)

-- and what holds of each element of all their lists holds of each of these joined
pub each_flat_map : {X Y : Type 0} (P : Y → Type 0) (f : X → List Y) (xs : List X) → AllByRecursion (λ x. AllByRecursion P (f x)) xs → AllByRecursion P (flat_map f xs)
each_flat_map P f [] p = tt
each_flat_map P f (x ∷ xs) p = each_append P (f x) (flat_map f xs) p.0 (each_flat_map P f xs p.1)

-- what follows from it holds of each element too
pub each_weaker : {X : Type 0} (P Q : X → Type 0) → ((x : X) → P x → Q x) → (xs : List X) → AllByRecursion P xs → AllByRecursion Q xs
each_weaker P Q f [] p = tt
each_weaker P Q f (x ∷ xs) p = (f x p.0, each_weaker P Q f xs p.1)

kept_or_not : {X : Type 0} (P : X → Type 0) (x : X) (xs : List X) (keeps : Bool) → (keeps ≡ true → P x) → AllByRecursion P xs → AllByRecursion P (if keeps then x ∷ xs else xs)
kept_or_not P x xs true p q = (p refl, q)
kept_or_not P x xs false p q = q

-- what a filter keeps has what each element that passes has
pub each_filter : {X : Type 0} (P : X → Type 0) (test : X → Bool) (xs : List X) → AllByRecursion (λ x. test x ≡ true → P x) xs → AllByRecursion P (filter test xs)
each_filter P test [] p = tt
each_filter P test (x ∷ xs) p = kept_or_not P x (filter test xs) (test x) p.0 (each_filter P test xs p.1)

-- each element beside its index, from n
pub each_enumerated : {X : Type 0} (P : ℕ × X → Type 0) (n : ℕ) (xs : List X) → ((k : ℕ) (x : X) → slice_get xs k ≡ Some x → P (n + k, x)) → AllByRecursion P (enumerate_from n xs)
each_enumerated P n [] f = tt
each_enumerated P n (x ∷ xs) f =
    let first : n + 0 ≡ n = omega arith in (
      subst (λ k. P (k, x)) first (f 0 x refl),
      each_enumerated P (n + 1) xs (λ k y e. let place : n + suc k ≡ (n + 1) + k = omega arith in subst (λ j. P (j, y)) place (f (suc k) y e)),
    )

-- each element beside its index
pub each_place : {X : Type 0} (P : ℕ × X → Type 0) (xs : List X) → ((k : ℕ) (x : X) → slice_get xs k ≡ Some x → P (k, x)) → AllByRecursion P (enumerate_from 0 xs)
each_place P xs f = each_enumerated P 0 xs (λ k x e. let place : k ≡ 0 + k = omega arith in subst (λ j. P (j, x)) place (f k x e))

-- what holds of each element holds of the one at an index
pub at_place : {X : Type 0} (P : X → Type 0) (xs : List X) (k : ℕ) (x : X) → All P xs → slice_get xs k ≡ Some x → P x
at_place P [] k x all e = absurd (let no : ⊥ = cc in no)
at_place P (y ∷ ys) zero x all e = let same : y ≡ x = cc in subst P same (all 0 y (omega arith))
at_place P (y ∷ ys) (suc k) x all e = at_place P ys k x (λ j d h. all (suc j) d (omega (arith, h))) e

-- what holds of two lists index by index holds of the elements at an index
pub at_places : {X Y : Type 0} (R : X → Y → Type 0) (xs : List X) (ys : List Y) (k : ℕ) (x : X) (y : Y) → AllZip R xs ys → slice_get xs k ≡ Some x → slice_get ys k ≡ Some y → R x y
at_places R [] ys k x y all e f = absurd (let no : ⊥ = cc in no)
at_places R (a ∷ xs) [] k x y all e f = absurd (let no : ⊥ = cc in no)
at_places R (a ∷ xs) (b ∷ ys) zero x y all e f =
    let first : a ≡ x = cc in
    let second : b ≡ y = cc in
    subst (λ z. R z y) first (subst (R a) second all.0)
at_places R (a ∷ xs) (b ∷ ys) (suc k) x y all e f = at_places R xs ys k x y all.1 e f
