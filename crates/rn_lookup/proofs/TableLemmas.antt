-- Names and their numbers.
use Rattle.std.proofs.Common.{◌≡◌, ℕ, suc, ◌+◌, ◌<◌, Bool, true, false, cond, List, [], ◌∷◌, length, drop, get_or, Option, Some}
use Rattle.std.proofs.Common.{sym, ap, ◌∙◌, arith, add-one, drop-cons}
use Rattle.std.proofs.lemmas.Option.{same_Some}
use Rattle.std.specs.Prelude.{bytes_eq}
use Rattle.std.specs.Ordering.{nat_cmp, is_eq}
use Rattle.std.specs.Cmp.Lexicographic.{slice_cmp}
use Rattle.std.proofs.lemmas.Map.Text.{is_eq-slice_cmp}
use Rattle.rn_lookup.specs.Found.{number_from}

-- what is found once a name is put under a number
pub put_found : (old new : List ℕ → Option ℕ) (name key : List ℕ) (number : ℕ) → key ≡ name →
    ((word : List ℕ) → new word ≡ cond (is_eq (slice_cmp nat_cmp key word)) (Some number) (old word)) →
    (word : List ℕ) → new word ≡ cond (bytes_eq name word) (Some number) (old word)
put_found old new name key number copied updates word =
    updates word
    ∙ ap (λ k. cond (is_eq (slice_cmp nat_cmp k word)) (Some number) (old word)) copied
    ∙ ap (λ b. cond b (Some number) (old word)) (is_eq-slice_cmp name word)

module _ {X : Type 0} (name : X → List ℕ) where
  -- one more name before those that a table has
  pub one_before : (xs : List X) (i n : ℕ) (x : X) (found : List ℕ → Option ℕ) →
      i < length xs → x ≡ get_or xs i x → n ≡ i + 1 →
      ((word : List ℕ) → found word ≡ number_from name n (drop n xs) word) → (word : List ℕ) →
      cond (bytes_eq (name x) word) (Some i) (found word) ≡ number_from name i (drop i xs) word
  one_before xs i n x found below is next old word =
      let items : drop i xs ≡ x ∷ drop (i + 1) xs =
      drop-cons xs i x below ∙ ap (λ y. y ∷ drop (suc i) xs) (sym is) ∙ ap (λ k. x ∷ drop k xs) (sym (add-one i)) in
      ap (λ o. cond (bytes_eq (name x) word) (Some i) o) (old word)
      ∙ ap (λ k. cond (bytes_eq (name x) word) (Some i) (number_from name k (drop k xs) word)) next
      ∙ ap (λ ys. number_from name i ys word) (sym items)

  -- a number that is found is in range
  pub number_within : (xs : List X) (n k : ℕ) (word : List ℕ) →
      number_from name n xs word ≡ Some k → k < n + length xs
  number_within [] n k word is = let no : ⊥ = cc in absurd no
  number_within (x ∷ xs) n k word is =
      by (bytes_eq (name x) word) is (number_within xs (n + 1) k word)
    where
      by : (b : Bool) → cond b (Some n) (number_from name (n + 1) xs word) ≡ Some k →
          (number_from name (n + 1) xs word ≡ Some k → k < n + 1 + length xs) →
          k < n + length (x ∷ xs)
      by true e later = let same : n ≡ k = same_Some n k e in omega (arith, same)
      by false e later = let below : k < n + 1 + length xs = later e in omega (arith, below)
