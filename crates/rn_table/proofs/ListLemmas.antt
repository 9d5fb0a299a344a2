-- Lists of values that are compared one after another.
use Rattle.std.proofs.Common.{◌≡◌, ℕ, zero, suc, ◌+◌, ◌<◌, ◌≤◌, List, [], ◌∷◌, ◌++◌, length, take, get_or, refl, sym, ap, ◌∙◌, subst, arith}
use Rattle.std.proofs.lemmas.List.{take_more}
use Rattle.std.specs.Prelude.{Bool, true, false, cond, not, nat_lt, Some, None, position}
use Rattle.std.specs.List.{AllByRecursion, position_or_len}
use Rattle.std.proofs.lemmas.Bool.{lt-ltb, le-ltb}

lt_true : (a b : ℕ) → a < b → nat_lt a b ≡ true
lt_true a b less = lt-ltb a b less

lt_false : (a b : ℕ) → b ≤ a → nat_lt a b ≡ false
lt_false a b past = le-ltb a b past

-- the first element that passes a test
module _ {A : Type 0} (p : A → Bool) where
  len_first : (xs : List A) (i : ℕ) (x : A) → AllByRecursion (λ y. p y ≡ false) (take i xs) → i < length xs → x ≡ get_or xs i x → p x ≡ true → position_or_len p xs ≡ i
  len_first [] i x none inside is yes_x = absurd (omega arith)
  len_first (y ∷ ys) zero x none inside is yes_x = ap (λ b. cond (not b) (1 + position_or_len p ys) 0) (ap p (sym is) ∙ yes_x)
  len_first (y ∷ ys) (suc i) x none inside is yes_x =
      ap (λ b. cond (not b) (1 + position_or_len p ys) 0) none.0 ∙ ap (λ n. 1 + n) (len_first ys i x none.1 (omega arith) is yes_x) ∙ omega arith

  len_none : (xs : List A) → AllByRecursion (λ y. p y ≡ false) xs → position_or_len p xs ≡ length xs
  len_none [] none = refl
  len_none (y ∷ ys) none = ap (λ b. cond (not b) (1 + position_or_len p ys) 0) none.0 ∙ ap (λ n. 1 + n) (len_none ys none.1) ∙ omega arith

  -- one that passes is the first where none before it does
  pub first_at : (xs : List A) (i : ℕ) (x : A) → AllByRecursion (λ y. p y ≡ false) (take i xs) → i < length xs → x ≡ get_or xs i x → p x ≡ true → position p xs ≡ Some i
  first_at xs i x none inside is yes_x =
      ap (λ n. cond (nat_lt n (length xs)) (Some n) None) (len_first xs i x none inside is yes_x) ∙ ap (λ b. cond b (Some i) None) (lt_true i (length xs) inside)

  -- where none passes there is no first
  pub first_none : (xs : List A) → AllByRecursion (λ y. p y ≡ false) xs → position p xs ≡ None
  first_none xs none = ap (λ n. cond (nat_lt n (length xs)) (Some n) None) (len_none xs none) ∙ ap (λ b. cond b (Some (length xs)) None) (lt_false (length xs) (length xs) (omega arith))

  -- where none so far passes and the next one doesn't, none does up to that
  pub none_more : (xs : List A) (i : ℕ) (x : A) → AllByRecursion (λ y. p y ≡ false) (take i xs) → i < length xs → x ≡ get_or xs i x → p x ≡ false → AllByRecursion (λ y. p y ≡ false) (take (i + 1) xs)
  none_more xs i x none inside is out =
      subst (AllByRecursion (λ y. p y ≡ false)) (sym (take_more xs i x inside ∙ ap (λ y. take i xs ++ y ∷ []) (sym is))) (joined (take i xs) (x ∷ []) none (out, tt))
    where
      joined : (ys zs : List A) → AllByRecursion (λ y. p y ≡ false) ys → AllByRecursion (λ y. p y ≡ false) zs → AllByRecursion (λ y. p y ≡ false) (ys ++ zs)
      joined [] zs a b = b
      joined (y ∷ ys) zs a b = (a.0, joined ys zs a.1 b)
