-- The initial tokens that come with new instances, by the number of an instance.
use Rattle.std.proofs.Common.{◌≡◌, ℕ, zero, suc, ◌+◌, ◌<◌, List, [], ◌∷◌, ◌++◌, cond, append-nil}
use Rattle.std.proofs.Common.{refl, ap, ◌∙◌, arith}
use Rattle.std.specs.Prelude.{false, Some, None, nat_eq, slice_get}
use Rattle.rn_model.specs.declared.system.System.{System}
use Rattle.rn_table.proofs.InstanceLemmas.{same_number, other_number}
use Rattle.rn_moves.specs.Moves.{initial_at, brought_at}

module _ (system : System) (place : ℕ) where
  others_first : (next net : ℕ) (nets : List ℕ) (n : ℕ) → nat_eq n next ≡ false →
      brought_at system next (net ∷ nets) n place ≡ brought_at system (next + 1) nets n place
  others_first next net nets n other =
      ap (λ here. cond here (initial_at system net place) []
      ++ brought_at system (next + 1) nets n place) other

  -- nothing to an instance with a lower number
  pub brought_below : (next : ℕ) (nets : List ℕ) (n : ℕ) → n < next →
      brought_at system next nets n place ≡ []
  brought_below next [] n low = refl
  brought_below next (net ∷ nets) n low =
      others_first next net nets n (other_number n next (λ e. omega (arith, e, low)))
      ∙ brought_below (next + 1) nets n (omega (arith, low))

  -- to a new instance its own
  pub brought_here : (next : ℕ) (nets : List ℕ) (k net : ℕ) → slice_get nets k ≡ Some net →
      brought_at system next nets (next + k) place ≡ initial_at system net place
  brought_here next [] k net at = absurd (let no : ⊥ = cc in no)
  brought_here next (first ∷ nets) zero net at =
      let number : next + 0 ≡ next = omega arith in
      let same : first ≡ net = cc in
      ap (λ n. brought_at system next (first ∷ nets) n place) number
      ∙ ap (λ here. cond here (initial_at system first place) []
      ++ brought_at system (next + 1) nets next place) (same_number next)
      ∙ ap (λ vs. initial_at system first place ++ vs)
      (brought_below (next + 1) nets next (omega arith))
      ∙ append-nil (initial_at system first place)
      ∙ ap (λ k. initial_at system k place) same
  brought_here next (first ∷ nets) (suc k) net at =
      let number : next + suc k ≡ (next + 1) + k = omega arith in
      others_first next first nets (next + suc k) (other_number (next + suc k) next (λ e. omega (arith, e)))
      ∙ ap (λ n. brought_at system (next + 1) nets n place) number
      ∙ brought_here (next + 1) nets k net at

  -- nothing past the last
  pub brought_past : (next : ℕ) (nets : List ℕ) (k : ℕ) → slice_get nets k ≡ None →
      brought_at system next nets (next + k) place ≡ []
  brought_past next [] k at = refl
  brought_past next (first ∷ nets) zero at = absurd (let no : ⊥ = cc in no)
  brought_past next (first ∷ nets) (suc k) at =
      let number : next + suc k ≡ (next + 1) + k = omega arith in
      others_first next first nets (next + suc k) (other_number (next + suc k) next (λ e. omega (arith, e)))
      ∙ ap (λ n. brought_at system (next + 1) nets n place) number
      ∙ brought_past (next + 1) nets k at
