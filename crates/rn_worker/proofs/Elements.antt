-- Elements of a list by their index.
use Rattle.std.proofs.Common.{◌≡◌, ℕ, zero, suc, ◌+◌, ◌<◌, List, [], ◌∷◌, ◌++◌, length, map, take, get_or, refl, sym, ap, ◌∙◌, subst, arith}
use Rattle.std.proofs.Math.Seq.{take-append_seam}
use Rattle.rn_desk.specs.Numbered.{EachAt}

module _ {A : Type 0} where
  -- some element, where there is one
  pub one_of : (xs : List A) (k : ℕ) → k < length xs → A
  one_of [] k h = absurd (omega arith)
  one_of (x ∷ xs) k h = x

  -- what a slice of the whole list wrote back
  pub written_back : (new others : List A) (n : ℕ) → n ≡ length new → take n (new ++ others) ≡ new
  written_back new others n e = ap (λ k. take k (new ++ others)) e ∙ take-append_seam new others

module _ {A B : Type 0} (f : A → B) where
  -- a mapped list is as long as the list
  pub length-of_map : (xs : List A) → length (map f xs) ≡ length xs
  length-of_map [] = refl
  length-of_map (x ∷ xs) = let r = length-of_map xs in omega arith

  -- at an index of it stands what the element there is mapped to
  pub get_or-map_at : (xs : List A) (k : ℕ) (y : B) (x : A) → k < length xs → get_or (map f xs) k y ≡ f (get_or xs k x)
  get_or-map_at [] k y x h = absurd (omega arith)
  get_or-map_at (z ∷ zs) zero y x h = refl
  get_or-map_at (z ∷ zs) (suc k) y x h = get_or-map_at zs k y x (omega arith)

  -- what holds by number of all that elements are mapped to holds of the mapped list
  pub EachAt-map : (P : ℕ → B → Type 0) (xs : List A) → EachAt (λ n a. P n (f a)) xs → EachAt P (map f xs)
  EachAt-map P xs each k y inside = let same = length-of_map xs in let n : k < length xs = omega arith in let x : A = one_of xs k n in
      subst (P (k + 1)) (sym (get_or-map_at xs k y x n)) (each k x n)
