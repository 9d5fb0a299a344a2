-- Elements of lists by their indices, by tests and by functions.
use Rattle.std.proofs.Common.{◌≡◌, ℕ, zero, suc, ◌+◌, ◌<◌, ◌≤◌, Bool, true, false, List, [], ◌∷◌, ◌++◌, length, take, map, get_or, refl, sym, ap, ◌∙◌, subst, arith}
use Rattle.std.specs.Prelude.{All, AllPairs, Contains, Some, None, cond, filter, find, flat_map, option_map, slice_get}
use Rattle.std.proofs.lemmas.List as L
use Rattle.std.proofs.lemmas.List.{get_or-map, length-map}
use Rattle.std.proofs.lemmas.List.Concat.{flat_map-append}
use Rattle.std.proofs.lemmas.Option.{same_Some, slice_get-get_or, slice_get-map, slice_get_past, slice_get_read}

-- an index within a list has an element
pub element_at : {X : Type 0} (xs : List X) (i : ℕ) → i < length xs → (x : X) × (slice_get xs i ≡ Some x)
element_at [] i low = absurd (let no : ⊥ = omega (arith, low) in no)
element_at (x ∷ xs) i low = (get_or (x ∷ xs) i x, slice_get-get_or (x ∷ xs) i x low)

-- an index at which a list has nothing is past its end
pub is_past : {X : Type 0} (xs : List X) (k : ℕ) → slice_get xs k ≡ None → length xs ≤ k
is_past [] k e = omega arith
is_past (x ∷ xs) zero e = absurd (let no : ⊥ = cc in no)
is_past (x ∷ xs) (suc k) e = let rest = is_past xs k e in omega (arith, rest)

-- an element of a list, seen by a function
pub map_item : {X Y : Type 0} (f : X → Y) (xs : List X) (i : ℕ) (x : X) → i < length xs →
    x ≡ get_or xs i x → f x ≡ get_or (map f xs) i (f x)
map_item f xs i x h is = ap f is ∙ sym (get_or-map f xs i x (f x) h)

pub slice_item : {X Y : Type 0} (f : X → Y) (xs : List X) (i : ℕ) (x : X) → i < length xs →
    x ≡ get_or xs i x → slice_get (map f xs) i ≡ Some (f x)
slice_item f xs i x h is =
    slice_get-map f xs i ∙ ap (option_map f) (slice_get_read xs (length xs) i x refl h is)

pub no_item : {X Y : Type 0} (f : X → Y) (xs : List X) (i : ℕ) → length xs ≤ i →
    slice_get (map f xs) i ≡ None
no_item f xs i h = slice_get_past (map f xs) i (omega (arith, length-map xs f))

-- one more, seen by a function
pub map_more : {X Y : Type 0} (f : X → Y) (xs : List X) (i : ℕ) (x : X) → i < length xs →
    x ≡ get_or xs i x → map f (take (i + 1) xs) ≡ map f (take i xs) ++ f x ∷ []
map_more f xs i x h is =
    L.map_more f xs i x h ∙ ap (λ y. map f (take i xs) ++ f y ∷ []) (sym is)

-- what is found passes the test
pub find_passes : {X : Type 0} (test : X → Bool) (xs : List X) (y : X) → find test xs ≡ Some y → test y ≡ true
find_passes test [] y e = absurd (let no : ⊥ = cc in no)
find_passes test (x ∷ xs) y e = elim (test x) as (λ t. test x ≡ t → test y ≡ true) [
  | true ↦ λ passes. let same : x ≡ y = same_Some x y (rw passes at e) in ap test (sym same) ∙ passes
  | false ↦ λ fails. find_passes test xs y (rw fails at e)
] refl

-- what passes a test is among those that do
pub in_filter : {X : Type 0} (test : X → Bool) (xs : List X) (x : X) → Contains xs x → test x ≡ true →
    Contains (filter test xs) x
in_filter test [] x (k, low, e) passes = absurd (let no : ⊥ = omega (arith, low) in no)
in_filter test (y ∷ xs) x (zero, low, e) passes =
    let here : test y ≡ true = ap test e ∙ passes in
    subst (λ t. Contains (cond t (y ∷ filter test xs) (filter test xs)) x) (sym here)
    (0, omega arith, e)
in_filter test (y ∷ xs) x (suc k, low, e) passes =
    let (j, within, at) = in_filter test xs x (k, omega (arith, low), e) passes in
    elim (test y) as (λ t. Contains (cond t (y ∷ filter test xs) (filter test xs)) x)
    [ true ↦ (suc j, omega (arith, within), at) | false ↦ (j, within, at) ]

-- what holds of each two elements holds of the first and each other, and of each two others
pub pairs_head : {X : Type 0} (R : X → X → Type 0) (x : X) (xs : List X) → AllPairs R (x ∷ xs) →
    All (R x) xs
pairs_head R x xs pairs k d within = pairs 0 (suc k) d (omega arith) (omega (arith, within))

pub pairs_tail : {X : Type 0} (R : X → X → Type 0) (x : X) (xs : List X) → AllPairs R (x ∷ xs) →
    AllPairs R xs
pairs_tail R x xs pairs i j d below within =
    pairs (suc i) (suc j) d (omega (arith, below)) (omega (arith, within))

-- lists that are made from the elements of made lists
pub flat_nested : {A B C : Type 0} (g : B → List C) (f : A → List B) (xs : List A) →
    flat_map g (flat_map f xs) ≡ flat_map (λ x. flat_map g (f x)) xs
flat_nested g f [] = refl
flat_nested g f (x ∷ xs) =
    flat_map-append g (f x) (flat_map f xs) ∙ ap (λ ys. flat_map g (f x) ++ ys) (flat_nested g f xs)
