-- Which tokens each firing of a log takes and puts.
--
-- A firing goes by its binding, by the number that the first instance gets that it makes, and by its
-- own number. What it takes, clears and puts at each place is what its arcs ask there, under the
-- numbers of the new instances. Tests and inhibitions move nothing, and a reserve arc both takes and
-- puts its token.
use Rattle.std.specs.Prelude.{ℕ, suc, ◌≡◌, ◌+◌, List, [], ◌∷◌, ◌++◌, length, map, flat_map, Some}
use Rattle.std.specs.Prelude.{slice_get, nat_eq, if◌then◌else◌, ⊤}
use Rattle.std.specs.List.{enumerate_from}
use Rattle.std.specs.List.Sorted.{IsSorted}
use Rattle.std.specs.Option.{option_map_or}
use Rattle.rn_value.specs.declared.value.Value.{Value}
use Rattle.rn_model.specs.declared.system.System.{System}
use Rattle.rn_model.specs.declared.binding.Binding.{Binding}
use Rattle.rn_model.specs.declared.log.Entry.{Entry}
use Rattle.rn_model.specs.declared.log.Entry.TheVariants.{Fire, End}
use Rattle.rn_model.specs.Firing.{Effects, creations_of, effects}
use Rattle.rn_model.specs.FiringLaws.{taken_by, cleared_by, put_by}
use Rattle.rn_model.specs.Lists.{count_of}
use Rattle.rn_model.specs.Systems.{net_at, main_net}
use Rattle.rn_moves.specs.declared.token.Token.{Token}
use Rattle.rn_moves.specs.declared.token.Moves.{Moves}
use Rattle.rn_moves.specs.Order.{token_cmp, token_count}

-- the initial tokens of a place of a net
abbrev pub initial_at : System → ℕ → ℕ → List Value
initial_at system net place =
    option_map_or (λ p. p.initial) (slice_get (net_at system net).places place) []

-- the initial tokens that come to a place of an instance with new instances of these nets, of which
-- the first has this number
abbrev pub brought_at : System → ℕ → List ℕ → ℕ → ℕ → List Value
brought_at system next nets n place =
    flat_map (λ m. if nat_eq n m.0 then initial_at system m.1 place else [])
    (enumerate_from next nets)

-- the nets of the instances that a binding makes, in the order of their numbers
abbrev pub nets_by : System → Binding → List ℕ
nets_by system b = map (λ c. c.net) (creations_of system b)

-- what leaves a place of an instance: what is taken there, and what is cleared
abbrev pub gone_at : System → ℕ → Binding → ℕ → ℕ → List Value
gone_at system next b n place = taken_by system b next n place ++ cleared_by system b next n place

-- what comes to a place of an instance: its initial tokens, where the firing makes the instance, and
-- what is put there after the actions
abbrev pub come_at : System → ℕ → Binding → Effects → ℕ → ℕ → List Value
come_at system next b acts n place =
    brought_at system next (nets_by system b) n place ++ put_by system acts n place

-- These tokens ascend, and have at each place of each instance just these values.
pub record AreTokens (at : ℕ → ℕ → List Value) (tokens : List Token) : Type 0 where
  pub ascending : IsSorted token_cmp tokens
  pub counted : (n place : ℕ) (v : Value) → token_count tokens n place v ≡ count_of v (at n place)

-- The moves of the start: no token leaves, and those come that instance 1, of `main`, has at first.
pub record AreFirst (system : System) (moves : Moves) : Type 0 where
  pub taken : moves.taken ≡ []
  pub put : AreTokens (brought_at system 1 (main_net system ∷ [])) moves.put

-- The moves of a firing that is defined.
pub record AreMovesOf (system : System) (next step : ℕ) (b : Binding) (moves : Moves)
    : Type 0 where
  pub acts : Effects
  pub are : effects system b next step ≡ Some acts
  pub taken : AreTokens (gone_at system next b) moves.taken
  pub put : AreTokens (come_at system next b acts) moves.put

-- the moves of each firing among entries, of which the first has this number and gives the instances
-- that it makes the numbers from next; an end moves nothing, nor does the binding of a fault
abbrev pub AreMovesFrom : System → ℕ → ℕ → List Entry → List Moves → Type 0
AreMovesFrom system next step [] [] = ⊤
AreMovesFrom system next step [] (moves ∷ others) = ⊥
AreMovesFrom system next step (Fire worker b outs ∷ entries) [] = ⊥
AreMovesFrom system next step (Fire worker b outs ∷ entries) (moves ∷ others) =
    AreMovesOf system next step b moves
    × AreMovesFrom system (next + length (creations_of system b)) (suc step) entries others
AreMovesFrom system next step (End reason ∷ entries) others =
    AreMovesFrom system next step entries others

-- the moves of a log: those of the start, and then those of each firing
abbrev pub AreMoves : System → List Entry → List Moves → Type 0
AreMoves system entries [] = ⊥
AreMoves system entries (first ∷ moves) =
    AreFirst system first × AreMovesFrom system 2 1 entries moves
