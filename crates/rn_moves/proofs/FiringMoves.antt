-- The moves of a firing, by what its actions give and by its change.
use Rattle.std.proofs.Common.{◌≡◌, ℕ, ◌+◌, ◌<◌, List, ◌++◌, length, map, ap, ◌∙◌}
use Rattle.std.proofs.Common.{arith}
use Rattle.std.specs.Prelude.{Result, Ok, Err, IfOk, flat_map}
use Rattle.std.proofs.lemmas.List.{length-map}
use Rattle.rn_value.specs.declared.value.InstRef.TheVariants.{Old}
use Rattle.rn_model.specs.declared.system.System.{System}
use Rattle.rn_model.specs.declared.binding.Binding.{Binding}
use Rattle.rn_model.specs.Demands.{cleared_at, taken_at}
use Rattle.rn_model.specs.Firing.{creations_of, named}
use Rattle.rn_table.specs.Changes.{values_at}
use Rattle.rn_table.specs.declared.change.Change.{Change}
use Rattle.rn_table.specs.declared.change.Row.{Row}
use Rattle.rn_acts.specs.Acted.{ArePut}
use Rattle.rn_acts.proofs.NumberingLemmas.{creations_kept}
use Rattle.rn_moves.specs.declared.token.Moves.{Moves}
use Rattle.rn_moves.specs.link.Movable.{IsDefined}
use Rattle.rn_moves.specs.Moves.{AreMovesOf, AreTokens, brought_at, come_at, gone_at, nets_by}
use Rattle.rn_moves.proofs.Counted.{same_tokens}

-- what holds of an answer by two facts
pub both_ok : {A E : Type 0} (P Q R : A → Type 0) (r : Result A E) → IfOk r P → IfOk r Q →
    ((x : A) → P x → Q x → R x) → IfOk r R
both_ok P Q R (Ok x) p q f = f x p q
both_ok P Q R (Err e) p q f = tt

module _ (system : System) (b : Binding) (next step : ℕ) (change : Change) (put : List Row)
    (defined : IsDefined system next step b)
    (made : change.made ≡ map (λ c. c.net) (creations_of system (named system b next))) where
  nets_are : change.made ≡ nets_by system b
  nets_are = made ∙ ap (map (λ c. c.net)) (creations_kept system b next)

  -- its new instances have numbers within
  pub made_low : next + length change.made < 4294967296
  made_low =
      let count : length change.made ≡ length (creations_of system b) =
      ap length nets_are ∙ length-map (creations_of system b) (λ c. c.net) in
      let low = defined.low in
      omega (arith, count, low)

  pub moves_are : ((n place : ℕ) → values_at change.taken n place
      ≡ taken_at system (named system b next) (Old n) place) →
      ((n place : ℕ) → values_at change.cleared n place
      ≡ flat_map (λ vs. vs) (cleared_at system (named system b next) (Old n) place)) →
      change.put ≡ put → ArePut system defined.acts put → (moves : Moves) →
      AreTokens (λ n place. values_at change.taken n place ++ values_at change.cleared n place)
      moves.taken →
      AreTokens (λ n place. brought_at system next change.made n place
      ++ values_at change.put n place) moves.put → AreMovesOf system next step b moves
  moves_are taken cleared put_is are_put moves gone come = record {
    acts = defined.acts;
    are = defined.are;
    taken = same_tokens _ (gone_at system next b) moves.taken
        (λ n place. ap (λ vs. vs ++ values_at change.cleared n place) (taken n place)
        ∙ ap (λ vs. taken_at system (named system b next) (Old n) place ++ vs) (cleared n place)) gone;
    put = same_tokens _ (come_at system next b defined.acts) moves.put
        (λ n place. ap (λ nets. brought_at system next nets n place ++ values_at change.put n place) nets_are
        ∙ ap (λ rows. brought_at system next (nets_by system b) n place ++ values_at rows n place) put_is
        ∙ ap (λ vs. brought_at system next (nets_by system b) n place ++ vs) (are_put n place)) come;
  }
