-- The items of a list whose numbers pass a test.
use Rattle.std.proofs.Common.{◌≡◌, ℕ, suc, ◌+◌, ◌<◌, ◌≤◌, Bool, true, false, cond, List, [], ◌∷◌, ◌++◌, length, take, drop, get_or, append-nil, length-take, length-drop, refl, sym, ap, ◌∙◌, subst, arith, inl, inr}
use Rattle.std.proofs.lemmas.List.{take-append-drop, take-take, drop_more, take_more, drop-append-le, drop_all, take_all}
use Rattle.std.proofs.lemmas.Bool.{cases_lt}
use Rattle.std.specs.List.{AllByRecursion}
use Rattle.rn_bag.specs.Slots.{there_from}

module _ {A : Type 0} where
  cond_join : (b : Bool) (x : A) (xs ys : List A) → cond b (x ∷ (xs ++ ys)) (xs ++ ys) ≡ cond b (x ∷ xs) xs ++ ys
  cond_join true x xs ys = refl
  cond_join false x xs ys = refl

  pub there_joined : (t : ℕ → Bool) (n : ℕ) (xs ys : List A) → there_from t n (xs ++ ys) ≡ there_from t n xs ++ there_from t (n + length xs) ys
  there_joined t n [] ys = ap (λ m. there_from t m ys) (let e : n ≡ n + 0 = omega arith in e)
  there_joined t n (x ∷ xs) ys =
      let place : suc n + length xs ≡ n + suc (length xs) = omega arith in
      ap (λ r. cond (t n) (x ∷ r) r) (there_joined t (suc n) xs ys ∙ ap (λ m. there_from t (suc n) xs ++ there_from t m ys) place)
      ∙ cond_join (t n) x (there_from t (suc n) xs) (there_from t (n + suc (length xs)) ys)

  pub there_agrees : (t u : ℕ → Bool) (n : ℕ) (xs : List A) → ((i : ℕ) → n ≤ i → i < n + length xs → t i ≡ u i) → there_from t n xs ≡ there_from u n xs
  there_agrees t u n [] same = refl
  there_agrees t u n (x ∷ xs) same =
      let rest : there_from t (suc n) xs ≡ there_from u (suc n) xs = there_agrees t u (suc n) xs (λ i low high. same i (omega arith) (omega arith)) in
      ap (λ b. cond b (x ∷ there_from t (suc n) xs) (there_from t (suc n) xs)) (same n (omega arith) (omega arith))
      ∙ ap (λ r. cond (u n) (x ∷ r) r) rest

  pub there_none : (t : ℕ → Bool) (n : ℕ) (xs : List A) → ((i : ℕ) → n ≤ i → i < n + length xs → t i ≡ false) → there_from t n xs ≡ []
  there_none t n [] out = refl
  there_none t n (x ∷ xs) out =
      ap (λ b. cond b (x ∷ there_from t (suc n) xs) (there_from t (suc n) xs)) (out n (omega arith) (omega arith))
      ∙ there_none t (suc n) xs (λ i low high. out i (omega arith) (omega arith))

  pub there_whole : (t : ℕ → Bool) (n : ℕ) (xs : List A) → ((i : ℕ) → n ≤ i → i < n + length xs → t i ≡ true) → there_from t n xs ≡ xs
  there_whole t n [] in' = refl
  there_whole t n (x ∷ xs) in' =
      ap (λ b. cond b (x ∷ there_from t (suc n) xs) (there_from t (suc n) xs)) (in' n (omega arith) (omega arith))
      ∙ ap (λ r. x ∷ r) (there_whole t (suc n) xs (λ i low high. in' i (omega arith) (omega arith)))

  -- what holds of all items holds of those
  all_kept : (P : A → Type 0) (b : Bool) (x : A) (xs : List A) → P x → AllByRecursion P xs → AllByRecursion P (cond b (x ∷ xs) xs)
  all_kept P true x xs here rest = (here, rest)
  all_kept P false x xs here rest = rest

  -- what holds of all items holds of those whose numbers pass
  pub there_all : (P : A → Type 0) (t : ℕ → Bool) (n : ℕ) (xs : List A) → AllByRecursion P xs → AllByRecursion P (there_from t n xs)
  there_all P t n [] all = tt
  there_all P t n (x ∷ xs) all = all_kept P (t n) x (there_from t (suc n) xs) all.0 (there_all P t (suc n) xs all.1)

  pub all_joined : (P : A → Type 0) (xs ys : List A) → AllByRecursion P xs → AllByRecursion P ys → AllByRecursion P (xs ++ ys)
  all_joined P [] ys all more = more
  all_joined P (x ∷ xs) ys all more = (all.0, all_joined P xs ys all.1 more)

  pub all_prefix : (P : A → Type 0) (xs ys : List A) → AllByRecursion P (xs ++ ys) → AllByRecursion P xs
  all_prefix P [] ys all = tt
  all_prefix P (x ∷ xs) ys all = (all.0, all_prefix P xs ys all.1)

  pub all_suffix : (P : A → Type 0) (xs ys : List A) → AllByRecursion P (xs ++ ys) → AllByRecursion P ys
  all_suffix P [] ys all = all
  all_suffix P (x ∷ xs) ys all = all_suffix P xs ys all.1

  pub all_weaker : (P Q : A → Type 0) (xs : List A) → ((x : A) → P x → Q x) → AllByRecursion P xs → AllByRecursion Q xs
  all_weaker P Q [] f all = tt
  all_weaker P Q (x ∷ xs) f all = (f x all.0, all_weaker P Q xs f all.1)

  -- items whose numbers are from m up to n, and none of which passes, may be left out
  pub there_skipped : (t : ℕ → Bool) (m n : ℕ) (xs : List A) → m ≤ n → n ≤ length xs → ((i : ℕ) → m ≤ i → i < n → t i ≡ false) →
      there_from t 0 (take n xs) ≡ there_from t 0 (take m xs)
  there_skipped t m n xs order within out =
      let front : length (take m (take n xs)) ≡ m = simp length-take (omega (arith, length-take n xs, length-take m xs)) in
      let same : take m (take n xs) ≡ take m xs = take-take m n xs order in
      let size : length (drop m (take n xs)) + m ≡ n = omega (arith, length-drop m (take n xs), length-take n xs) in
      let none : there_from t (0 + length (take m (take n xs))) (drop m (take n xs)) ≡ [] = there_none t (0 + length (take m (take n xs))) (drop m (take n xs)) (λ i low high. out i (omega (arith, front)) (omega (arith, front, size))) in
      ap (there_from t 0) (sym (take-append-drop m (take n xs)))
      ∙ there_joined t 0 (take m (take n xs)) (drop m (take n xs))
      ∙ ap (λ r. there_from t 0 (take m (take n xs)) ++ r) none
      ∙ append-nil (there_from t 0 (take m (take n xs)))
      ∙ ap (there_from t 0) same

  -- what passes of the items from number n on
  pub there_cut : (t : ℕ → Bool) (n : ℕ) (xs : List A) → n ≤ length xs → there_from t 0 xs ≡ there_from t 0 (take n xs) ++ there_from t n (drop n xs)
  there_cut t n xs within =
      let front : 0 + length (take n xs) ≡ n = omega (arith, length-take n xs) in
      ap (there_from t 0) (sym (take-append-drop n xs))
      ∙ there_joined t 0 (take n xs) (drop n xs)
      ∙ ap (λ m. there_from t 0 (take n xs) ++ there_from t m (drop n xs)) front

  -- one step from number n on
  pub there_next : (t : ℕ → Bool) (n i : ℕ) (xs : List A) (x : A) → i < length xs → x ≡ get_or xs i x → there_from t n (drop i xs) ≡ cond (t n) (x ∷ there_from t (suc n) (drop (i + 1) xs)) (there_from t (suc n) (drop (i + 1) xs))
  there_next t n i xs x within is =
      ap (there_from t n) (drop_more xs i x within)
      ∙ ap (λ y. cond (t n) (y ∷ there_from t (suc n) (drop (i + 1) xs)) (there_from t (suc n) (drop (i + 1) xs))) (sym is)

  -- one more item that holds the fact
  pub all_more : (P : A → Type 0) (m n : ℕ) (xs : List A) (x : A) → m ≤ n → n < length xs → x ≡ get_or xs n x → P x → AllByRecursion P (drop m (take n xs)) → AllByRecursion P (drop m (take (n + 1) xs))
  all_more P m n xs x order within is here all =
      let more : take (n + 1) xs ≡ take n xs ++ x ∷ [] = take_more xs n x within ∙ ap (λ y. take n xs ++ y ∷ []) (sym is) in
      let size : m ≤ length (take n xs) = omega (arith, length-take n xs) in
      let parts : drop m (take (n + 1) xs) ≡ drop m (take n xs) ++ x ∷ [] = ap (drop m) more ∙ drop-append-le m (take n xs) (x ∷ []) size in
      subst (AllByRecursion P) (sym parts) (all_joined P (drop m (take n xs)) (x ∷ []) all (here, tt))

  pub there_past : (t : ℕ → Bool) (n : ℕ) (xs : List A) → length xs ≤ n → there_from t n (drop n xs) ≡ []
  there_past t n xs past = ap (there_from t n) (drop_all n xs past)

  pub there_left : (t : ℕ → Bool) (m n : ℕ) (xs : List A) → ((i : ℕ) → m ≤ i → i < n → t i ≡ false) → length xs ≤ n → there_from t m (drop m xs) ≡ []
  there_left t m n xs out past = there_none t m (drop m xs) (λ i low high. out i low (omega (arith, length-drop m xs)))

  pub there_parts : (t : ℕ → Bool) (n : ℕ) (xs : List A) → there_from t 0 xs ≡ there_from t 0 (take n xs) ++ there_from t n (drop n xs)
  there_parts t n xs = elim (cases_lt (length xs) n) [
    | inl past ↦ (let none : there_from t n (drop n xs) ≡ [] = there_past t n xs (omega arith) in
        ap (there_from t 0) (sym (take_all n xs (omega arith))) ∙ sym (append-nil (there_from t 0 (take n xs))) ∙ ap (λ r. there_from t 0 (take n xs) ++ r) (sym none))
    | inr within ↦ there_cut t n xs within
  ]
