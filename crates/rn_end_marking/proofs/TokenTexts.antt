-- The texts of tokens in a row, one by one, and run by run.
use Rattle.std.proofs.Common.{◌≡◌, ℕ, zero, suc, ◌+◌, ◌-◌, ◌<◌, ◌≤◌, Bool, true, false, cond, List, [], ◌∷◌, ◌++◌, length, take, drop, replicate, refl, sym, ap, ◌∙◌, arith}
use Rattle.std.proofs.lemmas.List.{append-nil, append_assoc}
use Rattle.std.specs.Prelude.{Some, slice_get, flat_map}
use Rattle.rn_value.specs.declared.value.Value.{Value}
use Rattle.rn_model.specs.declared.repeats.Repeat.{Repeat}
use Rattle.rn_model.specs.Lists.{same_value}
use Rattle.rn_model.specs.Repeats.{with_first, repeats_of, BeginsOtherwise}
use Rattle.rn_model.proofs.RepeatedValues.{parted_again, repeats_hold_values, repeats_are_parted}
use Rattle.rn_window.specs.Windows.{Sight, after}
use Rattle.rn_window.proofs.Windows.{chained, nothing}

one_more_text : (f : Value → List ℕ) (xs : List Value) (k : ℕ) (x : Value) → slice_get xs k ≡ Some x →
    flat_map f (take (suc k) xs) ≡ flat_map f (take k xs) ++ f x
one_more_text f [] k x e = absurd (let no : ⊥ = cc in no)
one_more_text f (y ∷ ys) zero x e = let same : y ≡ x = cc in append-nil (f y) ∙ ap f same
one_more_text f (y ∷ ys) (suc k) x e =
    ap (λ t. f y ++ t) (one_more_text f ys k x e) ∙ sym (append_assoc (f y) (flat_map f (take k ys)) (f x))

-- one token more in a window
pub token_put : (f : Value → List ℕ) (xs : List Value) (k : ℕ) (x : Value) (w before since : Sight) →
    slice_get xs k ≡ Some x → before ≡ after w (flat_map f (take k xs)) → since ≡ after before (f x) →
    since ≡ after w (flat_map f (take (k + 1) xs))
token_put f xs k x w before since e so then =
    let next : suc k ≡ k + 1 = omega arith in
    then ∙ ap (λ s. after s (f x)) so ∙ chained w (flat_map f (take k xs)) (f x)
    ∙ ap (after w) (sym (one_more_text f xs k x e) ∙ ap (λ j. flat_map f (take j xs)) next)

front_run : (x : Value) (ys : List Value) (j : ℕ) → j ≤ length ys → ((k : ℕ) → k < j → slice_get ys k ≡ Some x) →
    ys ≡ replicate j x ++ drop j ys
front_run x ys zero h same = refl
front_run x [] (suc j) h same = absurd (let no : ⊥ = omega (arith, h) in no)
front_run x (y ∷ ys) (suc j) h same =
    let first = same 0 (omega arith) in
    let is : y ≡ x = cc in
    ap (λ z. z ∷ ys) is
    ∙ ap (λ zs. x ∷ zs) (front_run x ys j (omega (arith, h)) (λ k less. same (suc k) (omega (arith, less))))

run_first : (x : Value) (xs : List Value) (i j : ℕ) → i < j → j ≤ length xs → ((k : ℕ) → i ≤ k → k < j → slice_get xs k ≡ Some x) →
    drop i xs ≡ replicate (j - i) x ++ drop j xs
run_first x xs zero j less h same =
    let all : j ≡ j - 0 = omega arith in
    front_run x xs j h (λ k below. same k (omega arith) below) ∙ ap (λ n. replicate n x ++ drop j xs) all
run_first x [] (suc i) j less h same = absurd (let no : ⊥ = omega (arith, less, h) in no)
run_first x (y ∷ ys) (suc i) zero less h same = absurd (let no : ⊥ = omega (arith, less) in no)
run_first x (y ∷ ys) (suc i) (suc j) less h same =
    let count : j - i ≡ suc j - suc i = omega arith in
    run_first x ys i j (omega (arith, less)) (omega (arith, h)) (λ k low below. same (suc k) (omega (arith, low)) (omega (arith, below)))
    ∙ ap (λ n. replicate n x ++ drop j ys) count

first_begins : (x y : Value) (rs : List Repeat) → (x ≡ y → ⊥) → BeginsOtherwise x (with_first y rs)
first_begins x y [] other = other
first_begins x y (r ∷ rs) other = by (same_value y r.value)
  where
    by : (same : Bool) → BeginsOtherwise x (cond same (record { value = y; count = suc r.count } ∷ rs) (record { value = y; count = 1 } ∷ r ∷ rs))
    by true = other
    by false = other

begins : (x : Value) (xs : List Value) (j : ℕ) → (j < length xs → slice_get xs j ≡ Some x → ⊥) → BeginsOtherwise x (repeats_of (drop j xs))
begins x [] zero other = tt
begins x [] (suc j) other = tt
begins x (y ∷ ys) zero other = first_begins x y (repeats_of ys) (λ is. other (omega arith) (ap Some (sym is)))
begins x (y ∷ ys) (suc j) other = begins x ys j (λ less. other (omega (arith, less)))

-- equal tokens from one index up to another, and the others after them
pub one_run : (x : Value) (xs : List Value) (i j : ℕ) → i < j → j ≤ length xs →
    ((k : ℕ) → i ≤ k → k < j → slice_get xs k ≡ Some x) → (j < length xs → slice_get xs j ≡ Some x → ⊥) →
    repeats_of (drop i xs) ≡ record { value = x; count = j - i } ∷ repeats_of (drop j xs)
one_run x xs i j less h same other =
    let rest = drop j xs in
    ap repeats_of (run_first x xs i j less h same)
    ∙ ap (λ vs. repeats_of (replicate (j - i) x ++ vs)) (sym (repeats_hold_values rest))
    ∙ parted_again (record { value = x; count = j - i } ∷ repeats_of rest)
    (omega (arith, less), begins x xs j other, repeats_are_parted rest)

-- one run of equal tokens in a window, and what is still to come
pub run_put : (f : Repeat → List ℕ) (rs : List Repeat) (r : Repeat) (later : List Repeat) (before since : Sight) →
    rs ≡ r ∷ later → since ≡ after before (f r) → after since (flat_map f later) ≡ after before (flat_map f rs)
run_put f rs r later before since is then =
    ap (λ s. after s (flat_map f later)) then ∙ chained before (f r) (flat_map f later)
    ∙ ap (λ l. after before (flat_map f l)) (sym is)

drop_past : (xs : List Value) (i : ℕ) → length xs ≤ i → drop i xs ≡ []
drop_past [] zero h = refl
drop_past [] (suc i) h = refl
drop_past (y ∷ ys) zero h = absurd (let no : ⊥ = omega (arith, h) in no)
drop_past (y ∷ ys) (suc i) h = drop_past ys i (omega (arith, h))

-- past the last one nothing is to come
pub none_left : (f : Repeat → List ℕ) (xs : List Value) (i : ℕ) (w : Sight) → length xs ≤ i →
    after w (flat_map f (repeats_of (drop i xs))) ≡ w
none_left f xs i w h = ap (λ vs. after w (flat_map f (repeats_of vs))) (drop_past xs i h) ∙ nothing w
