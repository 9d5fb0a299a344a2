-- Instances that are the same but for one place.
use Rattle.std.proofs.Common.{◌≡◌, ◌≢◌, ℕ, zero, suc, ◌+◌, ◌<◌, ◌≤◌, Bool, true, false, List, [], ◌∷◌, length}
use Rattle.std.proofs.Common.{refl, sym, ap, ◌∙◌, subst, arith, inl, inr, ⊎_elim}
use Rattle.std.proofs.lemmas.Bool.{eqb-true}
use Rattle.std.specs.Prelude.{◌⊎◌, nat_eq, Contains, Some, slice_get, slice_set, unwrap_or}
use Rattle.std.proofs.lemmas.Option.{slice_get_past}
use Rattle.rn_value.specs.declared.value.Value.{Value}
use Rattle.rn_model.specs.Markings.{Instance}
use Rattle.rn_model.proofs.EnablingLemmas.{not_in_nil}
use Rattle.rn_table.specs.Alone.{with_tokens}
use Rattle.rn_parted.specs.link.Walks.{Avoids}
use Rattle.rn_parted.proofs.CutLemmas.{same_everywhere}
use Rattle.rn_finder.proofs.Numbers.{less_or_not}
use Rattle.rn_parted.proofs.ShareLemmas.{same_or_not}

set_same : (xs ys : List (List Value)) (place : ℕ) → length xs ≡ length ys →
    ((p : ℕ) → p ≢ place → slice_get xs p ≡ slice_get ys p) →
    slice_set xs place [] ≡ slice_set ys place []
set_same [] [] place long same = refl
set_same [] (y ∷ ys) place long same = absurd (let no : ⊥ = omega (arith, long) in no)
set_same (x ∷ xs) [] place long same = absurd (let no : ⊥ = omega (arith, long) in no)
set_same (x ∷ xs) (y ∷ ys) zero long same =
    ap (λ zs. [] ∷ zs) (same_everywhere xs ys (omega (arith, long))
    (λ k low. same (suc k) (λ e. let no : ⊥ = omega (arith, e) in no)))
set_same (x ∷ xs) (y ∷ ys) (suc place) long same =
    let first : Some x ≡ Some y = same 0 (λ e. let no : ⊥ = omega (arith, e) in no) in
    let head : x ≡ y = cc in
    ap (λ z. z ∷ slice_set xs place []) head
    ∙ ap (λ zs. y ∷ zs) (set_same xs ys place (omega (arith, long))
    (λ p other. same (suc p) (λ e. other (omega (arith, e)))))

pub beside_same : (was is : Instance) (place : ℕ) → was.number ≡ is.number → was.net ≡ is.net →
    length was.places ≡ length is.places →
    ((p : ℕ) → p ≢ place → slice_get was.places p ≡ slice_get is.places p) →
    with_tokens place [] was ≡ with_tokens place [] is
beside_same was is place number net long same =
    ap (λ k. let i : Instance
    = record { number = k; net = was.net; places = slice_set was.places place [] } in i) number
    ∙ ap (λ k. let i : Instance
    = record { number = is.number; net = k; places = slice_set was.places place [] } in i) net
    ∙ ap (λ ps. let i : Instance = record { number = is.number; net = is.net; places = ps } in i)
    (set_same was.places is.places place long same)

-- each place but one before an index holds the same
abbrev pub SameUpTo : List (List Value) → List (List Value) → ℕ → ℕ → Type 0
SameUpTo xs ys place i = (p : ℕ) → p < i → p ≢ place → slice_get xs p ≡ slice_get ys p

up_to_or : (p i : ℕ) → p < i + 1 → (p < i) ⊎ (p ≡ i)
up_to_or p i low = ⊎_elim
    (λ (same : p ≡ i). inr same)
    (λ (other : p ≢ i). inl (omega (arith, low, other)))
    (same_or_not p i)

pub same_further : (xs ys : List (List Value)) (place i : ℕ) → SameUpTo xs ys place i →
    (i ≢ place → slice_get xs i ≡ slice_get ys i) → SameUpTo xs ys place (i + 1)
same_further xs ys place i same here p low apart = ⊎_elim
    (λ (before : p < i). same p before apart)
    (λ (is : p ≡ i). subst (λ k. k ≢ place → slice_get xs k ≡ slice_get ys k) (sym is) here apart)
    (up_to_or p i low)

pub same_past : (xs ys : List (List Value)) (place i : ℕ) → SameUpTo xs ys place i →
    length xs ≤ i → length ys ≤ i → (p : ℕ) → p ≢ place → slice_get xs p ≡ slice_get ys p
same_past xs ys place i same first second p apart = ⊎_elim
    (λ (low : p < i). same p low apart)
    (λ (high : i ≤ p). slice_get_past xs p (omega (arith, first, high))
    ∙ sym (slice_get_past ys p (omega (arith, second, high))))
    (less_or_not p i)

-- each place but one before an index holds no token that mentions one of them
abbrev pub AvoidUpTo : List (List Value) → ℕ → List ℕ → ℕ → ℕ → Type 0
AvoidUpTo xs place found n i = (p : ℕ) (v : Value) → p < i → p ≢ place →
    Contains (unwrap_or (slice_get xs p) []) v → Avoids found n v

pub avoid_further : (xs : List (List Value)) (place : ℕ) (found : List ℕ) (n i : ℕ)
    (bag : List Value) → AvoidUpTo xs place found n i → slice_get xs i ≡ Some bag →
    (i ≢ place → (v : Value) → Contains bag v → Avoids found n v) →
    AvoidUpTo xs place found n (i + 1)
avoid_further xs place found n i bag before is here p v low apart has = ⊎_elim
    (λ (earlier : p < i). before p v earlier apart has)
    (λ (same : p ≡ i).
    here (λ e. apart (same ∙ e)) v
    (subst (λ o. Contains (unwrap_or o []) v)
    (ap (slice_get xs) same ∙ is) has))
    (up_to_or p i low)

pub avoid_past : (xs : List (List Value)) (place : ℕ) (found : List ℕ) (n i : ℕ) →
    AvoidUpTo xs place found n i → length xs ≤ i → (p : ℕ) (v : Value) → p ≢ place →
    Contains (unwrap_or (slice_get xs p) []) v → Avoids found n v
avoid_past xs place found n i before end p v apart has = ⊎_elim
    (λ (low : p < i). before p v low apart has)
    (λ (high : i ≤ p). absurd (not_in_nil v
    (subst (λ o. Contains (unwrap_or o []) v) (slice_get_past xs p (omega (arith, end, high))) has)))
    (less_or_not p i)

-- each token before an index mentions none of them
abbrev pub TokensAvoid : List Value → List ℕ → ℕ → ℕ → Type 0
TokensAvoid vs found n i = (k : ℕ) (v : Value) → k < i → slice_get vs k ≡ Some v → Avoids found n v

pub not_same : (a b : ℕ) → a ≢ b → nat_eq a b ≡ false
not_same a b apart = by_test (nat_eq a b) refl
  where
    by_test : (same : Bool) → nat_eq a b ≡ same → nat_eq a b ≡ false
    by_test true e = absurd (apart (eqb-true a b e))
    by_test false e = e
