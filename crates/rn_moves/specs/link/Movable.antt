-- When the moves of a log can be listed: each of its firings is defined, and moves only tokens
-- whose instances have a name by its end.
use Rattle.std.specs.Prelude.{ℕ, suc, ◌≡◌, ◌+◌, ◌≤◌, List, [], ◌∷◌, length, All, Some, IsTrue, ⊤}
use Rattle.rn_value.specs.Names.{instances_within}
use Rattle.rn_model.specs.declared.system.System.{System}
use Rattle.rn_model.specs.declared.binding.Binding.{Binding}
use Rattle.rn_model.specs.declared.log.Entry.{Entry}
use Rattle.rn_model.specs.declared.log.Entry.TheVariants.{Fire, End}
use Rattle.rn_model.specs.Bindings.{IsNodeOf}
use Rattle.rn_model.specs.Firing.{Effects, creations_of, effects}
use Rattle.rn_calc.specs.OwnKinds.{HaveOwnKinds}
use Rattle.rn_model.specs.Limits.{greatest_instance, greatest_step}
use Rattle.rn_moves.specs.declared.token.Token.{Token}
use Rattle.rn_moves.specs.declared.token.Moves.{Moves}
use Rattle.rn_moves.specs.Moves.{AreMovesOf}

-- each token names no instance above the last
abbrev pub AreWithin : ℕ → List Token → Type 0
AreWithin last tokens = All (λ t. IsTrue (instances_within t.value last)) tokens

-- The firing of a binding, which is the one with this number and gives the instances that it makes
-- the numbers from next, is defined.
pub record IsDefined (system : System) (next step : ℕ) (b : Binding) : Type 0 where
  pub nodes : All (IsNodeOf system) b.nodes
  pub kinds : All (HaveOwnKinds system) b.nodes
  pub low : next + length (creations_of system b) ≤ greatest_instance + 1
  pub in_time : step ≤ greatest_step
  pub acts : Effects
  pub are : effects system b next step ≡ Some acts

-- and it moves only tokens that name no instance above the last
pub record HasMoves (system : System) (last next step : ℕ) (b : Binding) : Type 0 where
  pub defined : IsDefined system next step b
  pub within : (moves : Moves) → AreMovesOf system next step b moves →
      AreWithin last moves.taken × AreWithin last moves.put

-- an entry that is a firing does
abbrev pub HasEntryMoves : System → ℕ → ℕ → ℕ → Entry → Type 0
HasEntryMoves system last next step (Fire worker b outs) = HasMoves system last next step b
HasEntryMoves system last next step (End reason) = ⊤

-- and so does each after those before it
abbrev pub HaveMoves : System → ℕ → ℕ → ℕ → List Entry → Type 0
HaveMoves system last next step [] = ⊤
HaveMoves system last next step (Fire worker b outs ∷ entries) =
    HasMoves system last next step b
    × HaveMoves system last (next + length (creations_of system b)) (suc step) entries
HaveMoves system last next step (End reason ∷ entries) =
    HaveMoves system last next step entries
