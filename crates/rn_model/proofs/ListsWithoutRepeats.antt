-- A list without repeats whose elements are all in another is no longer than that.
use Rattle.std.proofs.Common.{◌≡◌, ℕ, zero, suc, ◌<◌, ◌≤◌, Bool, true, false, ◌||◌, List, [], ◌∷◌}
use Rattle.std.proofs.Common.{length, get_or, refl, sym, ◌∙◌, subst, arith, eqb}
use Rattle.std.specs.Prelude.{Some, slice_get, Contains}
use Rattle.std.specs.List.{list_any, IsDistinct, AllByRecursion}
use Rattle.std.proofs.lemmas.Bool.{eqb-true, or_parts}
use Rattle.std.proofs.lemmas.Map.Steps.{length-le_from_distinct_below}

-- within a list it doesn't matter what stands past its end
get_same : {A : Type 0} (xs : List A) (k : ℕ) (d e : A) → k < length xs →
    get_or xs k d ≡ get_or xs k e
get_same [] k d e h = absurd (let no : ⊥ = omega (arith, h) in no)
get_same (x ∷ xs) zero d e h = refl
get_same (x ∷ xs) (suc k) d e h = get_same xs k d e (omega (arith, h))

one_of : (a b : Bool) → a || b ≡ true → (P : Type 0) → (a ≡ true → P) → (b ≡ true → P) → P
one_of true b e P f g = f refl
one_of false b e P f g = g e

-- each element of one list is in another
abbrev pub AreIn : {A : Type 0} → List A → List A → Type 0
AreIn {A} xs ys = (k : ℕ) (x : A) → slice_get xs k ≡ Some x → Contains ys x

-- no element stands at two indexes
abbrev pub Once : {A : Type 0} → List A → Type 0
Once {A} xs = (j k : ℕ) (x : A) → slice_get xs j ≡ Some x → slice_get xs k ≡ Some x → j ≡ k

module _ {A : Type 0} (ys : List A) where
  -- the index in `ys` of each element
  indexes : (xs : List A) → AreIn xs ys → List ℕ
  indexes [] all = []
  indexes (x ∷ xs) all = (all 0 x refl).0 ∷ indexes xs (λ k y e. all (suc k) y e)

  indexes-length : (xs : List A) (all : AreIn xs ys) → length (indexes xs all) ≡ length xs
  unfolding indexes
  indexes-length [] all = refl
  indexes-length (x ∷ xs) all =
      let rest = indexes-length xs (λ k y e. all (suc k) y e) in omega (arith, rest)

  -- an element of a list stands at this index of `ys`
  abbrev StandsAt : List A → ℕ → Type 0
  StandsAt xs q = (k : ℕ) × (x : A) × (slice_get xs k ≡ Some x) × (q < length ys)
      × (get_or ys q x ≡ x)

  placed : (xs : List A) (all : AreIn xs ys) (q : ℕ) →
      list_any (eqb q) (indexes xs all) ≡ true → StandsAt xs q
  unfolding indexes
  placed [] all q e = absurd (let no : ⊥ = cc in no)
  placed (x ∷ xs) all q e =
      let tail : AreIn xs ys = λ k y e. all (suc k) y e in
      one_of (eqb q (all 0 x refl).0) (list_any (eqb q) (indexes xs tail)) e (StandsAt (x ∷ xs) q)
      (λ here.
      let same : (all 0 x refl).0 ≡ q = sym (eqb-true q (all 0 x refl).0 here) in
      subst (λ p. StandsAt (x ∷ xs) p) same (0, x, refl, (all 0 x refl).1, (all 0 x refl).2))
      (λ there.
      let rest = placed xs tail q there in (suc rest.0, rest.1, rest.2, rest.3, rest.4))

  apart : (x : A) (xs : List A) (all : AreIn (x ∷ xs) ys) → Once (x ∷ xs) → (b : Bool) →
      list_any (eqb (all 0 x refl).0) (indexes xs (λ k y e. all (suc k) y e)) ≡ b → b ≡ false
  apart x xs all once false e = refl
  apart x xs all once true e =
      let at = placed xs (λ k y e. all (suc k) y e) (all 0 x refl).0 e in
      let here = sym (all 0 x refl).2 in
      let same : x ≡ at.1 = here ∙ get_same ys (all 0 x refl).0 x at.1 at.3 ∙ at.4 in
      let again : slice_get xs at.0 ≡ Some x =
      subst (λ y. slice_get xs at.0 ≡ Some y) (sym same) at.2 in
      let never : 0 ≡ suc at.0 = once 0 (suc at.0) x refl again in
      absurd (let no : ⊥ = omega (arith, never) in no)

  none_same : (q : ℕ) (ps : List ℕ) → list_any (eqb q) ps ≡ false →
      AllByRecursion (λ p. eqb q p ≡ false) ps
  none_same q [] e = tt
  none_same q (p ∷ ps) e =
      let both = or_parts (eqb q p) (list_any (eqb q) ps) e in (both.0, none_same q ps both.1)

  distinct : (xs : List A) (all : AreIn xs ys) → Once xs → IsDistinct eqb (indexes xs all)
  unfolding indexes IsDistinct
  distinct [] all once = tt
  distinct (x ∷ xs) all once =
      let rest : AreIn xs ys = λ k y e. all (suc k) y e in
      let tail : Once xs = λ j k y e f.
      let same : suc j ≡ suc k = once (suc j) (suc k) y e f in omega (arith, same) in
      let none = list_any (eqb (all 0 x refl).0) (indexes xs rest) in (
        none_same (all 0 x refl).0 (indexes xs rest) (apart x xs all once none refl),
        distinct xs rest tail,
      )

  pub no_longer : (xs : List A) → AreIn xs ys → Once xs → length xs ≤ length ys
  no_longer xs all once =
      let short = length-le_from_distinct_below (indexes xs all) (length ys) (distinct xs all once)
      (λ q e. (placed xs all q e).3) in
      omega (arith, short, indexes-length xs all)
