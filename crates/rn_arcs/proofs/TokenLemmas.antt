-- Loops over lists: lists that agree up to an index, what holds of all so far, and counting.
use Rattle.std.proofs.Common.{◌≡◌, ℕ, zero, suc, ◌+◌, ◌<◌, List, [], ◌∷◌, ◌++◌, take, get_or}
use Rattle.std.proofs.Common.{length, refl, sym, ap, ◌∙◌, arith}
use Rattle.std.proofs.Common.{◌-◌, Bool, true, false, subst, below_more}
use Rattle.std.specs.Prelude.{Some, slice_get, All, IsTrue, ◌↔◌}
use Rattle.std.proofs.lemmas.Bool.{false≢true}
use Rattle.std.proofs.lemmas.List.Sums.{sum_by-append}
use Rattle.rn_model.specs.Lists.{same_value, count_of}
use Rattle.rn_model.proofs.ValueLists.{one_if, count_of-cons, same_is}
use Rattle.rn_value.specs.link.OrderLaws.{equal_iff_same}
use Rattle.std.proofs.lemmas.List.{take_more}
use Rattle.rn_value.specs.declared.value.Value.{Value}

got_is : (vs : List Value) (i : ℕ) (v : Value) → slice_get vs i ≡ Some v → get_or vs i v ≡ v
got_is [] i v e = refl
got_is (w ∷ vs) zero v e = cc
got_is (w ∷ vs) (suc i) v e = got_is vs i v e

pub within : {X : Type 0} (vs : List X) (i : ℕ) (v : X) → slice_get vs i ≡ Some v →
    i < length vs
within [] i v e = absurd (let no : ⊥ = cc in no)
within (w ∷ vs) zero v e = omega arith
within (w ∷ vs) (suc i) v e = let low = within vs i v e in omega (arith, low)

pub one_more_same : (vs ws : List Value) (i : ℕ) (v : Value) → i < length vs →
    v ≡ get_or vs i v → slice_get ws i ≡ Some v → take i vs ≡ take i ws →
    take (i + 1) vs ≡ take (i + 1) ws
one_more_same vs ws i v low at found before =
    take_more vs i v low
    ∙ ap (λ us. us ++ get_or vs i v ∷ []) before
    ∙ ap (λ u. take i ws ++ u ∷ []) (sym at ∙ sym (got_is ws i v found))
    ∙ sym (take_more ws i v (within ws i v found))

module _ {X : Type 0} (P : X → Type 0) (xs : List X) (i : ℕ) (x : X) (low : i < length xs)
    (is : x ≡ get_or xs i x) where
  any_default : (ys : List X) (n : ℕ) (d e : X) → n < length ys → get_or ys n d ≡ get_or ys n e
  any_default [] n d e h = absurd (let no : ⊥ = omega (arith, h) in no)
  any_default (y ∷ ys) zero d e h = refl
  any_default (y ∷ ys) (suc n) d e h = any_default ys n d e (omega (arith, h))

  -- one more of which it holds
  pub holds_more : ((k : ℕ) (d : X) → k < i → P (get_or xs k d)) → P x → (k : ℕ) (d : X) →
      k < i + 1 → P (get_or xs k d)
  holds_more before here k d more =
      below_more (λ k. P (get_or xs k d)) i (λ k h. before k d h)
      (subst P (is ∙ any_default xs i x d low) here) k more

  -- one of which it doesn't hold
  pub not_all : (P x → ⊥) → IsTrue false ↔ All P xs
  not_all not_here = (
    λ yes. absurd (false≢true yes),
    λ all. absurd (not_here (subst P (sym is) (all i x low))),
  )

-- where one part fails, the whole fails
pub part_fails : (r : Bool) (P Q : Type 0) → IsTrue r ↔ P → r ≡ false → (Q → P) →
    IsTrue false ↔ Q
part_fails r P Q both fails part = (
  λ yes. absurd (false≢true yes),
  λ whole. absurd (false≢true (sym fails ∙ both.1 (part whole))),
)

-- counting one more
module _ (v x : Value) (xs : List Value) (i n left next : ℕ) (low : i < length xs)
    (is : x ≡ get_or xs i x) (before : left ≡ n - count_of v (take i xs)) where
  counted_more : count_of v (take (i + 1) xs) ≡ count_of v (take i xs) + one_if (same_value v x)
  counted_more =
      let added : take (i + 1) xs ≡ take i xs ++ x ∷ [] =
      take_more xs i x low ∙ ap (λ y. take i xs ++ y ∷ []) (sym is) in
      let apart = sum_by-append (λ w. one_if (same_value v w)) (take i xs) (x ∷ []) in
      let one : count_of v (x ∷ []) ≡ one_if (same_value v x) + 0 = count_of-cons v x [] in
      ap (count_of v) added ∙ omega (arith, apart, one)

  pub left_less : v ≡ x → next ≡ left - 1 → next ≡ n - count_of v (take (i + 1) xs)
  left_less same e =
      let one : one_if (same_value v x) ≡ 1 = ap one_if ((equal_iff_same v x).1 same) in
      let more = counted_more in
      omega (arith, one, more, before, e)

  differs : (b : Bool) → same_value v x ≡ b → (v ≡ x → ⊥) → one_if b ≡ 0
  differs true e other = absurd (other (same_is v x e))
  differs false e other = refl

  pub left_same : (v ≡ x → ⊥) → next ≡ left → next ≡ n - count_of v (take (i + 1) xs)
  left_same other e =
      let none = differs (same_value v x) refl other in
      let more = counted_more in
      omega (arith, none, more, before, e)
