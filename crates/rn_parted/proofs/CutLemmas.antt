-- Lists that are cut at a cursor.
use Rattle.std.proofs.Common.{◌≡◌, ℕ, zero, suc, ◌+◌, ◌<◌, ◌≤◌, List, [], ◌∷◌, ◌++◌, length, take, drop, get_or}
use Rattle.std.proofs.Common.{refl, sym, ap, ◌∙◌, subst, arith}
use Rattle.std.specs.Prelude.{Some, slice_get, Contains}
use Rattle.std.proofs.lemmas.List.{take-append-drop}
use Rattle.std.proofs.lemmas.List.Elements.{Contains-append_left, Contains-append_right, Contains-push}

-- with one element more
pub take_more : {X : Type 0} (xs : List X) (c : ℕ) (s : X) → slice_get xs c ≡ Some s →
    take (suc c) xs ≡ take c xs ++ s ∷ []
take_more [] c s e = absurd (let no : ⊥ = cc in no)
take_more (x ∷ xs) zero s e = let same : x ≡ s = cc in ap (λ y. y ∷ []) same
take_more (x ∷ xs) (suc c) s e = ap (λ ys. x ∷ ys) (take_more xs c s e)

-- what lies past one more lies past it
pub past_more : {X : Type 0} (xs : List X) (c : ℕ) (y : X) → Contains (drop (suc c) xs) y →
    Contains (drop c xs) y
past_more [] zero y has = has
past_more [] (suc c) y has = has
past_more (x ∷ xs) zero y (k, h, at) = (suc k, omega (arith, h), at)
past_more (x ∷ xs) (suc c) y has = past_more xs c y has

pub past_at : {X : Type 0} (xs : List X) (c : ℕ) (s : X) → slice_get xs c ≡ Some s →
    Contains (drop c xs) s
past_at [] c s e = absurd (let no : ⊥ = cc in no)
past_at (x ∷ xs) zero s e = let same : x ≡ s = cc in (0, omega arith, same)
past_at (x ∷ xs) (suc c) s e = past_at xs c s e

pub took_at : {X : Type 0} (xs : List X) (c : ℕ) (s : X) → slice_get xs c ≡ Some s →
    Contains (take (suc c) xs) s
took_at xs c s e =
    subst (λ ys. Contains ys s) (sym (take_more xs c s e)) (Contains-push (take c xs) s)

-- an element is put at the cursor
pub inserted_take : {X : Type 0} (xs : List X) (c : ℕ) (s : X) → c ≤ length xs →
    take (suc c) (take c xs ++ s ∷ drop c xs) ≡ take c xs ++ s ∷ []
inserted_take xs zero s h = refl
inserted_take [] (suc c) s h = absurd (let no : ⊥ = omega (arith, h) in no)
inserted_take (x ∷ xs) (suc c) s h =
    ap (λ ys. x ∷ ys) (inserted_take xs c s (omega (arith, h)))

pub inserted_drop : {X : Type 0} (xs : List X) (c : ℕ) (s : X) → c ≤ length xs →
    drop (suc c) (take c xs ++ s ∷ drop c xs) ≡ drop c xs
inserted_drop xs zero s h = refl
inserted_drop [] (suc c) s h = absurd (let no : ⊥ = omega (arith, h) in no)
inserted_drop (x ∷ xs) (suc c) s h = inserted_drop xs c s (omega (arith, h))

pub inserted_long : {X : Type 0} (xs : List X) (c : ℕ) (s : X) → c ≤ length xs →
    suc c ≤ length (take c xs ++ s ∷ drop c xs)
inserted_long xs zero s h = omega arith
inserted_long [] (suc c) s h = absurd (let no : ⊥ = omega (arith, h) in no)
inserted_long (x ∷ xs) (suc c) s h =
    let rest = inserted_long xs c s (omega (arith, h)) in omega (arith, rest)

-- the element at the cursor goes
pub removed_take : {X : Type 0} (xs : List X) (c : ℕ) → c < length xs →
    take c (take c xs ++ drop (suc c) xs) ≡ take c xs
removed_take xs zero h = refl
removed_take [] (suc c) h = absurd (let no : ⊥ = omega (arith, h) in no)
removed_take (x ∷ xs) (suc c) h = ap (λ ys. x ∷ ys) (removed_take xs c (omega (arith, h)))

pub removed_drop : {X : Type 0} (xs : List X) (c : ℕ) → c < length xs →
    drop c (take c xs ++ drop (suc c) xs) ≡ drop (suc c) xs
removed_drop xs zero h = refl
removed_drop [] (suc c) h = absurd (let no : ⊥ = omega (arith, h) in no)
removed_drop (x ∷ xs) (suc c) h = removed_drop xs c (omega (arith, h))

pub removed_long : {X : Type 0} (xs : List X) (c : ℕ) → c < length xs →
    c ≤ length (take c xs ++ drop (suc c) xs)
removed_long xs zero h = omega arith
removed_long [] (suc c) h = absurd (let no : ⊥ = omega (arith, h) in no)
removed_long (x ∷ xs) (suc c) h =
    let rest = removed_long xs c (omega (arith, h)) in omega (arith, rest)

-- lists with the same elements at each index
pub same_everywhere : {X : Type 0} (xs ys : List X) → length xs ≡ length ys →
    ((k : ℕ) → k < length xs → slice_get xs k ≡ slice_get ys k) → xs ≡ ys
same_everywhere [] [] long same = refl
same_everywhere [] (y ∷ ys) long same = absurd (let no : ⊥ = omega (arith, long) in no)
same_everywhere (x ∷ xs) [] long same = absurd (let no : ⊥ = omega (arith, long) in no)
same_everywhere (x ∷ xs) (y ∷ ys) long same =
    let first : Some x ≡ Some y = same 0 (omega arith) in
    let head : x ≡ y = cc in
    let rest : xs ≡ ys = same_everywhere xs ys (omega (arith, long))
    (λ k low. same (suc k) (omega (arith, low))) in
    ap (λ z. z ∷ xs) head ∙ ap (λ zs. y ∷ zs) rest

-- an element that stands at an index
pub stands_at : {X : Type 0} (xs : List X) (k : ℕ) (x : X) → k < length xs → x ≡ get_or xs k x →
    slice_get xs k ≡ Some x
stands_at [] k x low is = absurd (let no : ⊥ = omega (arith, low) in no)
stands_at (y ∷ xs) zero x low is = ap Some (sym is)
stands_at (y ∷ xs) (suc k) x low is = stands_at xs k x (omega (arith, low)) is

-- an element that is got is one of them
one_later : {X : Type 0} (y : X) (xs : List X) (x : X) → Contains xs x → Contains (y ∷ xs) x
one_later y xs x (j, h, at) = (suc j, omega (arith, h), at)

pub got_within : {X : Type 0} (xs : List X) (k : ℕ) (x : X) → slice_get xs k ≡ Some x → Contains xs x
got_within [] k x e = absurd (let no : ⊥ = cc in no)
got_within (y ∷ xs) zero x e = let same : y ≡ x = cc in (0, omega arith, same)
got_within (y ∷ xs) (suc k) x e = one_later y xs x (got_within xs k x e)

-- elements that stand side by side from an index on
run_first : {X : Type 0} (xs run : List X) → length run ≤ length xs →
    ((k : ℕ) → k < length run → slice_get xs k ≡ slice_get run k) → take (length run) xs ≡ run
run_first xs [] low same = refl
run_first [] (y ∷ run) low same = absurd (let no : ⊥ = omega (arith, low) in no)
run_first (x ∷ xs) (y ∷ run) low same =
    let first : Some x ≡ Some y = same 0 (omega arith) in
    let head : x ≡ y = cc in
    let rest : take (length run) xs ≡ run =
    run_first xs run (omega (arith, low)) (λ k h. same (suc k) (omega (arith, h))) in
    ap (λ z. z ∷ take (length run) xs) head ∙ ap (λ zs. y ∷ zs) rest

pub run_taken : {X : Type 0} (xs run : List X) (i : ℕ) → i + length run ≤ length xs →
    ((k : ℕ) → k < length run → slice_get xs (i + k) ≡ slice_get run k) →
    take (i + length run) xs ≡ take i xs ++ run
run_taken xs run zero low same =
    let none : 0 + length run ≡ length run = omega arith in
    ap (λ k. take k xs) none
    ∙ run_first xs run (omega (arith, low))
    (λ k h. let at : k ≡ 0 + k = omega arith in ap (slice_get xs) at ∙ same k h)
run_taken [] run (suc i) low same = absurd (let no : ⊥ = omega (arith, low) in no)
run_taken (x ∷ xs) run (suc i) low same =
    let more : suc i + length run ≡ suc (i + length run) = omega arith in
    ap (λ k. take k (x ∷ xs)) more
    ∙ ap (λ ys. x ∷ ys) (run_taken xs run i (omega (arith, low))
    (λ k h. let at : suc (i + k) ≡ suc i + k = omega arith in
    ap (slice_get (x ∷ xs)) at ∙ same k h))

-- each of them is one of all
pub run_within : {X : Type 0} (xs run : List X) (i : ℕ) → i + length run ≤ length xs →
    ((k : ℕ) → k < length run → slice_get xs (i + k) ≡ slice_get run k) → (x : X) →
    Contains run x → Contains xs x
run_within xs run i low same x has =
    let taken : Contains (take (i + length run) xs) x =
    subst (λ ys. Contains ys x) (sym (run_taken xs run i low same))
    (Contains-append_right (take i xs) run x has) in
    subst (λ ys. Contains ys x) (take-append-drop (i + length run) xs)
    (Contains-append_left (take (i + length run) xs) (drop (i + length run) xs) x taken)
