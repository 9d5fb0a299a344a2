-- Laws over moves. Each is the contract of a function that does nothing.
use Rattle.std.specs.Prelude.{ℕ, suc, ◌≡◌, ◌+◌, ◌≤◌, List, ◌∷◌, ◌++◌, length, sum_by, take, Option}
use Rattle.rn_value.specs.declared.value.Value.{Value}
use Rattle.rn_model.specs.declared.system.System.{System}
use Rattle.rn_model.specs.declared.log.Entry.{Entry}
use Rattle.rn_model.specs.declared.log.Reason.{Reason}
use Rattle.rn_model.specs.declared.log.Options.{Options}
use Rattle.rn_model.specs.Good.{Good, IsInLimits}
use Rattle.rn_model.specs.Lists.{count_of}
use Rattle.rn_model.specs.Markings.{initial_marking, tokens_at}
use Rattle.rn_model.specs.Runs.{Firing, Log, Run, end_of, entries_of}
use Rattle.rn_moves.specs.declared.token.Moves.{Moves}
use Rattle.rn_moves.specs.Order.{token_count}
use Rattle.rn_moves.specs.link.Movable.{HaveMoves}
use Rattle.rn_moves.specs.Moves.{AreFirst, AreMoves, AreMovesOf}
use Rattle.rn_moves.specs.MovesText.{nets_of}

-- how often in all these moves a value leaves a place of an instance
abbrev pub times_taken : List Moves → ℕ → ℕ → Value → ℕ
times_taken all n place v = sum_by (λ moves. token_count moves.taken n place v) all

-- and how often it comes there
abbrev pub times_put : List Moves → ℕ → ℕ → Value → ℕ
times_put all n place v = sum_by (λ moves. token_count moves.put n place v) all

-- the moves of the start are the initial marking, place by place
abbrev pub FirstIsInitial : Type 0
FirstIsInitial = (system : System) (moves : Moves) → AreFirst system moves →
    (n place : ℕ) (v : Value) →
    token_count moves.put n place v ≡ count_of v (tokens_at (initial_marking system) n place)

-- What a place holds after the first firings of a run, and what has left it by then, is together what
-- has come to it. This is said of every number of an instance: one that isn't made by then holds
-- nothing.
abbrev pub MovesAddUp : Type 0
MovesAddUp = (system : System) (depth : ℕ) (fs gs : List Firing) (ended : Option Reason)
    (all : List Moves) → Good system → Run system depth (fs ++ gs) →
    AreMoves system (entries_of (fs ++ gs) ended) all →
    let so_far = take (suc (length fs)) all in
    (n place : ℕ) (v : Value) →
    count_of v (tokens_at (end_of system fs) n place) + times_taken so_far n place v
    ≡ times_put so_far n place v

-- what a firing of a run takes from a place is there before it, with repeats
abbrev pub MovesTakeWhatIsThere : Type 0
MovesTakeWhatIsThere = (system : System) (depth : ℕ) (fs gs : List Firing) (f : Firing)
    (moves : Moves) → Good system → Run system depth (fs ++ f ∷ gs) →
    AreMovesOf system (end_of system fs).next (suc (length fs)) f.binding moves →
    (n place : ℕ) (v : Value) →
    token_count moves.taken n place v ≤ count_of v (tokens_at (end_of system fs) n place)

-- a log has only one list of moves
abbrev pub MovesAreOne : Type 0
MovesAreOne = (system : System) (entries : List Entry) (all others : List Moves) →
    AreMoves system entries all → AreMoves system entries others → all ≡ others

-- the moves of each log of a good system can be listed
abbrev pub LogsHaveMoves : Type 0
LogsHaveMoves = (system : System) (options : Options) (fs : List Firing)
    (ended : Option Reason) → Good system → IsInLimits options → Log system options fs ended →
    HaveMoves system (length (nets_of system (entries_of fs ended))) 2 1 (entries_of fs ended)
