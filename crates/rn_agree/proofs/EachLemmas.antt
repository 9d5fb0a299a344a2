-- What holds of each element of a list, element by element.
use Rattle.std.proofs.Common.{◌≡◌, ℕ, ◌+◌, ◌<◌, ◌≤◌, true, false, List, ◌∷◌, length, get_or, drop}
use Rattle.std.proofs.Common.{refl, sym, ap, ◌∙◌, subst, arith}
use Rattle.std.specs.Prelude.{Some, All, nat_lt, slice_get, ◌↔◌}
use Rattle.std.specs.List.{AllZip}
use Rattle.std.proofs.lemmas.Option.{slice_get_within, slice_get-get_or, same_Some}
use Rattle.std.proofs.lemmas.Bool.Decides.{nat_tests}
use Rattle.std.proofs.lemmas.List.{get_or_default, drop_more}

-- what holds of those before an index, and at it, holds of one more
pub each_more : {X : Type 0} (P : X → Type 0) (all xs : List X) (i : ℕ) (x : X) → all ≡ xs →
    i < length all → x ≡ get_or all i x → ((k : ℕ) (d : X) → k < i → P (get_or xs k d)) → P x →
    (k : ℕ) (d : X) → k < i + 1 → P (get_or xs k d)
each_more P all xs i x same h is before here k d low =
    elim (nat_lt k i) as (λ b. nat_lt k i ≡ b → P (get_or xs k d)) [
      | true ↦ λ e. before k d (grind (arith, nat_tests))
      | false ↦ λ e.
          let last : k ≡ i = grind (arith, nat_tests) in
          subst (λ l. P (get_or l k d)) same (subst (λ j. P (get_or all j d)) (sym last)
          (subst P (is ∙ get_or_default all i x d h) here))
    ] refl

-- what holds of each holds at an index
pub each_at : {X : Type 0} (P : X → Type 0) (all xs : List X) (i : ℕ) (x : X) → all ≡ xs →
    i < length all → x ≡ get_or all i x → All P xs → P x
each_at P all xs i x same h is each =
    let here : P (get_or all i x) = subst (λ l. All P l) (sym same) each i x h in
    subst P (sym is) here

-- what holds of all before the end holds of each
pub each_all : {X : Type 0} (P : X → Type 0) (all xs : List X) (i : ℕ) → all ≡ xs → length all ≤ i →
    ((k : ℕ) (d : X) → k < i → P (get_or xs k d)) → All P xs
each_all P all xs i same end before k d h =
    let ends : length xs ≤ i = subst (λ l. length l ≤ i) same end in
    before k d (omega (arith, h, ends))

-- The same with an element's index.
module _ {X : Type 0} (P : ℕ → X → Type 0) (all xs : List X) (same : all ≡ xs) (i : ℕ) where
  abbrev Before : ℕ → Type 0
  Before n = (j : ℕ) (y : X) → j < n → slice_get xs j ≡ Some y → P j y

  pub indexed_more : (x : X) → i < length all → Before i → P i (get_or all i x) → Before (i + 1)
  indexed_more x h before here j y low e =
      elim (nat_lt j i) as (λ b. nat_lt j i ≡ b → P j y) [
        | true ↦ λ t. before j y (grind (arith, nat_tests)) e
        | false ↦ λ t.
            let last : j ≡ i = grind (arith, nat_tests) in
            let there : slice_get xs i ≡ Some (get_or all i x)
            = subst (λ l. slice_get l i ≡ Some (get_or all i x)) same
            (slice_get-get_or all i x h) in
            let one : get_or all i x ≡ y
            = same_Some (get_or all i x) y (sym there ∙ ap (slice_get xs) (sym last) ∙ e) in
            subst (λ n. P n y) (sym last) (subst (P i) one here)
      ] refl

  pub indexed_at : (x : X) → i < length all → ((j : ℕ) (y : X) → slice_get xs j ≡ Some y → P j y) →
      P i (get_or all i x)
  indexed_at x h each =
      each i (get_or all i x)
      (subst (λ l. slice_get l i ≡ Some (get_or all i x)) same (slice_get-get_or all i x h))

  pub indexed_all : length all ≤ i → Before i → (j : ℕ) (y : X) → slice_get xs j ≡ Some y → P j y
  indexed_all end before j y e =
      let low = slice_get_within xs j y e in
      let ends : length xs ≤ i = subst (λ l. length l ≤ i) same end in
      before j y (omega (arith, low, ends)) e

-- two lists from an index on, where it has an element in both
pub zip_here : {X Y : Type 0} (R : X → Y → Type 0) (xs : List X) (ys : List Y) (k : ℕ) (x : X)
    (y : Y) →
    k < length xs → k < length ys → x ≡ get_or xs k x → y ≡ get_or ys k y →
    AllZip R (drop k xs) (drop k ys) ↔ (R x y × AllZip R (drop (k + 1) xs) (drop (k + 1) ys))
zip_here R xs ys k x y h g e f =
    let left : drop k xs ≡ x ∷ drop (k + 1) xs
    = drop_more xs k x h ∙ ap (λ z. z ∷ drop (k + 1) xs) (sym e) in
    let right : drop k ys ≡ y ∷ drop (k + 1) ys
    = drop_more ys k y g ∙ ap (λ z. z ∷ drop (k + 1) ys) (sym f) in (
      λ all. subst (λ l. AllZip R l (y ∷ drop (k + 1) ys)) left
          (subst (λ l. AllZip R (drop k xs) l) right all),
      λ all. subst (λ l. AllZip R l (drop k ys)) (sym left)
          (subst (λ l. AllZip R (x ∷ drop (k + 1) xs) l) (sym right) all),
    )

-- where they agree there, they agree from there on as they do after it
pub zip_more : {X Y : Type 0} (R : X → Y → Type 0) (xs : List X) (ys : List Y) (k : ℕ) (x : X)
    (y : Y) →
    k < length xs → k < length ys → x ≡ get_or xs k x → y ≡ get_or ys k y → R x y →
    (AllZip R (drop k xs) (drop k ys) ↔ AllZip R xs ys) →
    AllZip R (drop (k + 1) xs) (drop (k + 1) ys) ↔ AllZip R xs ys
zip_more R xs ys k x y h g e f here so_far =
    let at = zip_here R xs ys k x y h g e f in
    (λ all. so_far.0 (at.1 (here, all)), λ all. (at.0 (so_far.1 all)).1)

-- and where they agree as a whole, they agree there
pub zip_at : {X Y : Type 0} (R : X → Y → Type 0) (xs : List X) (ys : List Y) (k : ℕ) (x : X)
    (y : Y) →
    k < length xs → k < length ys → x ≡ get_or xs k x → y ≡ get_or ys k y →
    (AllZip R (drop k xs) (drop k ys) ↔ AllZip R xs ys) → AllZip R xs ys → R x y
zip_at R xs ys k x y h g e f so_far all = ((zip_here R xs ys k x y h g e f).0 (so_far.1 all)).0
