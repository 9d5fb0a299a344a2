-- Passes numbered from 1, and their seats that are joined one after another.
use Rattle.std.proofs.Common.{◌≡◌, ℕ, zero, suc, ◌+◌, ◌<◌, List, [], ◌∷◌, ◌++◌, length, map, get_or, sym, refl, ap, ◌∙◌, subst, arith, append_assoc, append-nil}
use Rattle.std.specs.List.{remove}
use Rattle.rn_desk.specs.declared.view.Part.{Part}
use Rattle.rn_desk.specs.Entries.{StartsWith, authored}
use Rattle.rn_desk.specs.Numbered.{EachAt}
use Rattle.rn_desk.specs.Turns.{Every, PartFits}

-- P holds of each element and its number, where the first has the number n
abbrev pub AllFrom : {A : Type 0} → (ℕ → A → Type 0) → ℕ → List A → Type 0
AllFrom P n [] = Unit {0}
AllFrom P n (x ∷ xs) = P n x × AllFrom P (n + 1) xs

module _ {A : Type 0} (P : ℕ → A → Type 0) where
  pub AllFrom_push : (n : ℕ) (xs : List A) (x : A) → AllFrom P n xs → P (n + length xs) x → AllFrom P n (xs ++ x ∷ [])
  AllFrom_push n [] x all here = let same : n + 0 ≡ n = omega arith in (subst (λ (k : ℕ). P k x) same here, tt)
  AllFrom_push n (y ∷ ys) x all here = let same : n + suc (length ys) ≡ (n + 1) + length ys = omega arith in
      (all.0, AllFrom_push (n + 1) ys x all.1 (subst (λ (k : ℕ). P k x) same here))

  AllFrom_at : (n : ℕ) (xs : List A) → AllFrom P n xs → (i : ℕ) (d : A) → i < length xs → P (n + i) (get_or xs i d)
  AllFrom_at n [] all i d inside = absurd (omega arith)
  AllFrom_at n (x ∷ xs) all zero d inside = let same : n ≡ n + 0 = omega arith in subst (λ (k : ℕ). P k x) same all.0
  AllFrom_at n (x ∷ xs) all (suc i) d inside = let same : (n + 1) + i ≡ n + suc i = omega arith in subst (λ (k : ℕ). P k (get_or xs i d)) same (AllFrom_at (n + 1) xs all.1 i d (omega arith))

  AllFrom_of : (n : ℕ) (xs : List A) → ((i : ℕ) (d : A) → i < length xs → P (n + i) (get_or xs i d)) → AllFrom P n xs
  AllFrom_of n [] each = tt
  AllFrom_of n (x ∷ xs) each = let same : n + 0 ≡ n = omega arith in (
    subst (λ (k : ℕ). P k x) same (each 0 x (omega arith)),
    AllFrom_of (n + 1) xs (λ i d inside. let next : n + suc i ≡ (n + 1) + i = omega arith in subst (λ (k : ℕ). P k (get_or xs i d)) next (each (suc i) d (omega arith))),
  )

  -- the two ways between an index and the number
  pub each_of : (xs : List A) → AllFrom P 1 xs → EachAt P xs
  each_of xs all k d inside = let same : 1 + k ≡ k + 1 = omega arith in subst (λ (n : ℕ). P n (get_or xs k d)) same (AllFrom_at 1 xs all k d inside)

  pub all_of : (xs : List A) → EachAt P xs → AllFrom P 1 xs
  all_of xs each = AllFrom_of 1 xs (λ i d inside. let same : i + 1 ≡ 1 + i = omega arith in subst (λ (n : ℕ). P n (get_or xs i d)) same (each i d inside))

module _ {A : Type 0} where
  pub first_removed : (xs : List A) (x : A) → 0 < length xs → x ≡ get_or xs 0 x → xs ≡ x ∷ remove xs 0
  first_removed [] x some e = absurd (omega arith)
  first_removed (y ∷ ys) x some e = ap (λ (z : A). z ∷ ys) (sym e)

  none_left : (xs : List A) → length xs ≡ 0 → xs ≡ []
  none_left [] e = refl
  none_left (y ∷ ys) e = absurd (omega arith)

module _ {A I : Type 0} (own : A → Part I) where
  -- the first seat is the whole, then the next is joined, and at last all are
  pub first_joined : (xs rest : List A) (x : A) (others : List (Part I)) → xs ≡ x ∷ rest → others ≡ [] → (own x ∷ others) ++ map own rest ≡ map own xs
  first_joined xs rest x others split none = ap (λ (o : List (Part I)). (own x ∷ o) ++ map own rest) none ∙ sym (ap (map own) split)

  pub next_joined : (all : List (Part I)) (xs rest : List A) (x : A) (p : Part I) (others more : List (Part I)) → xs ≡ x ∷ rest → more ≡ [] → (p ∷ others) ++ map own xs ≡ all
      → (p ∷ (others ++ own x ∷ more)) ++ map own rest ≡ all
  next_joined all xs rest x p others more split none inv = ap (λ (m : List (Part I)). (p ∷ (others ++ own x ∷ m)) ++ map own rest) none
      ∙ (append_assoc (p ∷ others) (own x ∷ []) (map own rest) ∙ (ap (λ (l : List A). (p ∷ others) ++ map own l) (sym split) ∙ inv))

  pub all_joined : (xs rest : List A) (joined : List (Part I)) → length rest ≡ 0 → joined ++ map own rest ≡ map own xs → joined ≡ map own xs
  all_joined xs rest joined none e = sym (append-nil joined) ∙ (ap (λ (l : List A). joined ++ map own l) (sym (none_left rest none)) ∙ e)

  pub length-parts : (xs : List A) → length (map own xs) ≡ length xs
  length-parts [] = refl
  length-parts (x ∷ xs) = let r = length-parts xs in omega arith

  -- where the parts fit the history, each pass is in it under its number
  pub all_in : (author : I → ℕ) (log : List I) (P : ℕ → A → Type 0) → ((k : ℕ) (a : A) → P k a → (own a).number ≡ k) → (n : ℕ) (xs : List A) → AllFrom P n xs → Every (PartFits author log) (map own xs)
      → AllFrom (λ k a. StartsWith log (own a).seen × (authored author k log ≡ (own a).mine)) n xs
  all_in author log P numbered n [] all fit = tt
  all_in author log P numbered n (x ∷ xs) all fit = ((fit.0.0, subst (λ (k : ℕ). authored author k log ≡ (own x).mine) (numbered n x all.0) fit.0.1), all_in author log P numbered (n + 1) xs all.1 fit.1)
