-- The least number of levels that suffices, found from the first number on.
use Rattle.std.proofs.Common.{ℕ, zero, suc, ◌≡◌, ◌+◌, ◌<◌, ◌≤◌, List, [], ◌∷◌, length, map, Bool, true, false}
use Rattle.std.proofs.Common.{Option, Some, None, refl, subst, arith, get_or, ⊎_elim}
use Rattle.std.specs.Prelude.{unwrap_or, slice_get, if◌then◌else◌}
use Rattle.std.proofs.Math.Nat.{eq-or-lt_of_le}
use Rattle.rn_model.specs.declared.system.System.{System}
use Rattle.rn_model.specs.declared.system.Transition.{Transition}
use Rattle.rn_model.specs.Systems.{empty_transition}
use Rattle.rn_channel.specs.Heights.{suffices, IsLeastHeight}
use Rattle.rn_channel.specs.link.Kept.{least_height}

-- what a search from k on, over so many numbers, found
abbrev Found : System → Transition → ℕ → ℕ → Option ℕ → Type 0
Found system t k more None = (j : ℕ) → k ≤ j → j < k + more → suffices system j t ≡ false
Found system t k more (Some n) =
    (suffices system n t ≡ true) × ((j : ℕ) → k ≤ j → j < n → suffices system j t ≡ false)

-- with one number before, which doesn't suffice
one_before : (system : System) (t : Transition) (k more : ℕ) (o : Option ℕ) →
    suffices system k t ≡ false → Found system t (suc k) more o → Found system t k (suc more) o
one_before system t k more None here found = λ j least below.
    ⊎_elim
    (λ same. subst (λ n. suffices system n t ≡ false) same here)
    (λ later. found j (omega (arith, later)) (omega (arith, below)))
    (eq-or-lt_of_le least)
one_before system t k more (Some n) here found = (
  found.0,
  λ j least below. ⊎_elim
      (λ same. subst (λ n. suffices system n t ≡ false) same here)
      (λ later. found.1 j (omega (arith, later)) below)
      (eq-or-lt_of_le least),
)

found_least : (system : System) (t : Transition) (more k : ℕ) →
    Found system t k more (least_height system t k more)
found_least system t zero k = λ j least below. absurd (omega (arith, least, below))
found_least system t (suc more) k = by (suffices system k t) refl (found_least system t more (suc k))
  where
    by : (b : Bool) → suffices system k t ≡ b →
        Found system t (suc k) more (least_height system t (suc k) more) →
        Found system t k (suc more)
        (if b then Some k else least_height system t (suc k) more)
    by true here found = (here, λ j least below. absurd (omega (arith, least, below)))
    by false here found = one_before system t k more (least_height system t (suc k) more) here found

pub least_is_least : (system : System) (t : Transition) → IsLeastHeight system t (least_height system t 0 17)
least_is_least system t = by (least_height system t 0 17) (found_least system t 17 0)
  where
    by : (o : Option ℕ) → Found system t 0 17 o → IsLeastHeight system t o
    by None found = λ j below. found j (omega arith) (omega (arith, below))
    by (Some n) found = (found.0, λ j below. found.1 j (omega arith) below)

-- what a function gives at a transition's number
pub at_transition : (f : Transition → Option ℕ) (ts : List Transition) (i : ℕ) (h : Option ℕ) →
    i < length ts → get_or (map f ts) i h ≡ f (unwrap_or (slice_get ts i) empty_transition)
at_transition f [] i h below = absurd (omega (arith, below))
at_transition f (t ∷ ts) zero h below = refl
at_transition f (t ∷ ts) (suc i) h below = at_transition f ts i h (omega (arith, below))
