-- Loops by index: what holds of each element with its index.
use Rattle.std.proofs.Common.{◌≡◌, ℕ, ◌+◌, ◌<◌, ◌≤◌, false, true, List, [], length, refl, sym}
use Rattle.std.proofs.Common.{ap, ◌∙◌, subst, inl, inr, arith}
use Rattle.std.specs.Prelude.{◌⊎◌, Some, ◌↔◌, IsTrue, slice_get}
use Rattle.std.proofs.lemmas.Bool.{cases_lt, false≢true}
use Rattle.rn_arcs.proofs.TokenLemmas.{within}

module _ {X : Type 0} (P : ℕ → X → Type 0) (xs : List X) where
  abbrev pub EachBelow : ℕ → Type 0
  EachBelow n = (k : ℕ) (x : X) → k < n → slice_get xs k ≡ Some x → P k x

  abbrev pub EachOne : Type 0
  EachOne = (k : ℕ) (x : X) → slice_get xs k ≡ Some x → P k x

  module _ (i : ℕ) (x : X) (there : slice_get xs i ≡ Some x) where
    by_side : EachBelow i → P i x → (k : ℕ) (y : X) → k < i + 1 → slice_get xs k ≡ Some y →
        (k < i) ⊎ (i ≤ k) → P k y
    by_side before here k y below at (inl earlier) = before k y earlier at
    by_side before here k y below at (inr later) =
        let last : i ≡ k = omega (arith, below, later) in
        let found : Some x ≡ Some y = sym there ∙ ap (slice_get xs) last ∙ at in
        let same : x ≡ y = cc in
        subst (λ n. P n y) last (subst (P i) same here)

    -- one more of which it holds
    pub below_next : EachBelow i → P i x → EachBelow (i + 1)
    below_next before here k y below at = by_side before here k y below at (cases_lt k i)

    -- one of which it doesn't hold
    pub one_fails : (P i x → ⊥) → IsTrue false ↔ EachOne
    one_fails fails = (
      λ yes. absurd (false≢true yes),
      λ each. absurd (fails (each i x there)),
    )

  -- all of them
  pub all_hold : (n : ℕ) → length xs ≤ n → EachBelow n → IsTrue true ↔ EachOne
  all_hold n all each = (
    λ yes k x at. let low = within xs k x at in each k x (omega (arith, all, low)) at,
    λ each. refl,
  )

  -- none of which it wouldn't hold
  pub none_there : xs ≡ [] → EachOne
  none_there none k x at =
      let low = within [] k x (subst (λ ys. slice_get ys k ≡ Some x) none at) in
      absurd (let no : ⊥ = omega (arith, low) in no)
