-- What values in a list mention, as far as one has come in it.
use Rattle.std.proofs.Common.{◌≡◌, ℕ, zero, suc, ◌+◌, ◌-◌, ◌<◌, ◌≤◌, Bool, true, false, ◌||◌, List, [], ◌∷◌, length, map, take, get_or, refl, sym, ap, ◌∙◌, arith}
use Rattle.std.proofs.Math.Bool.{or-false, or_assoc}
use Rattle.std.proofs.lemmas.List.Folds.{list_any_more}
use Rattle.std.specs.List.{list_any}
use Rattle.std.specs.Prelude.{Some, slice_get}

-- the tests of mapped elements
pub any_mapped : {X : Type 0} (f : X → ℕ → Bool) (xs : List X) (n : ℕ) → list_any (λ test. test n) (map f xs) ≡ list_any (λ x. f x n) xs
any_mapped f [] n = refl
any_mapped f (x ∷ xs) n = ap (λ b. f x n || b) (any_mapped f xs n)

-- one element more
pub one_more : {X : Type 0} (f : X → ℕ → Bool) (xs : List X) (i : ℕ) (x : X) → i < length xs → x ≡ get_or xs i x → (n : ℕ) → list_any (λ y. f y n) (take (i + 1) xs) ≡ (list_any (λ y. f y n) (take i xs) || f x n)
one_more f xs i x h is n = list_any_more (λ y. f y n) xs i x h ∙ ap (λ y. list_any (λ z. f z n) (take i xs) || f y n) (sym is)

-- and so where each element is mapped to its test
pub one_more_mapped : {X : Type 0} (f : X → ℕ → Bool) (xs : List X) (i : ℕ) (x : X) → i < length xs → x ≡ get_or xs i x → (n : ℕ) → list_any (λ test. test n) (map f (take (i + 1) xs)) ≡ (list_any (λ test. test n) (map f (take i xs)) || f x n)
one_more_mapped f xs i x h is n =
    any_mapped f (take (i + 1) xs) n ∙ one_more f xs i x h is n ∙ ap (λ b. b || f x n) (sym (any_mapped f (take i xs) n))

-- an element that is got
pub got : {X : Type 0} (xs : List X) (k : ℕ) (x : X) → slice_get xs k ≡ Some x → (k < length xs) × (get_or xs k x ≡ x)
got [] k x e = absurd (let no : ⊥ = cc in no)
got (y ∷ ys) zero x e = (omega arith, let same : y ≡ x = cc in same)
got (y ∷ ys) (suc k) x e = let rest = got ys k x e in (omega (arith, rest.0), rest.1)

again : (a b : Bool) → ((a || b) || b) ≡ (a || b)
again true b = refl
again false true = refl
again false false = refl

module _ {X : Type 0} (p : X → Bool) (xs : List X) (x : X) where
  -- one more element, where it is got
  pub one_got : (k : ℕ) → slice_get xs k ≡ Some x → list_any p (take (k + 1) xs) ≡ (list_any p (take k xs) || p x)
  one_got k e =
      let is = got xs k x e in list_any_more p xs k x is.0 ∙ ap (λ y. list_any p (take k xs) || p y) is.1

  equal_run : (i d : ℕ) → ((k : ℕ) → i ≤ k → k < i + 1 + d → slice_get xs k ≡ Some x) → list_any p (take (i + 1 + d) xs) ≡ (list_any p (take i xs) || p x)
  equal_run i zero same =
      let here : i + 1 + 0 ≡ i + 1 = omega arith in
      ap (λ j. list_any p (take j xs)) here ∙ one_got i (same i (omega arith) (omega arith))
  equal_run i (suc d) same =
      let here : i + 1 + suc d ≡ i + 1 + d + 1 = omega arith in
      ap (λ j. list_any p (take j xs)) here
      ∙ one_got (i + 1 + d) (same (i + 1 + d) (omega arith) (omega arith))
      ∙ ap (λ b. b || p x) (equal_run i d (λ k low high. same k low (omega (arith, high))))
      ∙ again (list_any p (take i xs)) (p x)

  -- equal elements from one index up to another count as one
  pub same_run : (i j : ℕ) → i < j → slice_get xs i ≡ Some x → ((k : ℕ) → i ≤ k → k < j → slice_get xs k ≡ slice_get xs i) → list_any p (take j xs) ≡ (list_any p (take i xs) || p x)
  same_run i j h first same =
      let at : i + 1 + (j - (i + 1)) ≡ j = omega (arith, h) in
      ap (λ k. list_any p (take k xs)) (sym at)
      ∙ equal_run i (j - (i + 1)) (λ k low high. same k low (omega (arith, high, at)) ∙ first)

-- elements that stand side by side from an index on
pub run_got : {X : Type 0} (p : X → Bool) (xs run : List X) (i : ℕ) → ((k : ℕ) → k < length run → slice_get xs (i + k) ≡ slice_get run k) → list_any p (take (i + length run) xs) ≡ (list_any p (take i xs) || list_any p run)
run_got p xs [] i same =
    let at : i + 0 ≡ i = omega arith in
    ap (λ j. list_any p (take j xs)) at ∙ sym (or-false (list_any p (take i xs)))
run_got p xs (x ∷ run) i same =
    let at : i + suc (length run) ≡ i + 1 + length run = omega arith in
    let first : i ≡ i + 0 = omega arith in
    ap (λ j. list_any p (take j xs)) at
    ∙ run_got p xs run (i + 1) (λ k h. let next : i + 1 + k ≡ i + suc k = omega arith in ap (slice_get xs) next ∙ same (suc k) (omega (arith, h)))
    ∙ ap (λ b. b || list_any p run) (one_got p xs x i (ap (slice_get xs) first ∙ same 0 (omega arith)))
    ∙ or_assoc (list_any p (take i xs)) (p x) (list_any p run)
