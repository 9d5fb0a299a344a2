-- The moves of a run add up to its markings.
use Rattle.std.proofs.Common.{◌≡◌, ℕ, suc, ◌+◌, List, [], ◌∷◌, ◌++◌, length, take, refl, sym, ap, ◌∙◌}
use Rattle.std.proofs.Common.{subst, arith, cond, Bool, true, false, append-nil}
use Rattle.std.specs.Prelude.{Option, Some, None, nat_eq, slice_get, unwrap_or, option_map, option_and_then}
use Rattle.std.specs.Option.{option_map_or}
use Rattle.std.proofs.lemmas.Bool.{eqb-true}
use Rattle.std.proofs.lemmas.List.Sums.{sum_by-cons}
use Rattle.std.proofs.lemmas.Option.{slice_get-map}
use Rattle.rn_value.specs.declared.value.Value.{Value}
use Rattle.rn_model.specs.declared.system.System.{System}
use Rattle.rn_model.specs.declared.system.Place.{Place}
use Rattle.rn_model.specs.declared.log.Reason.{Reason}
use Rattle.rn_model.specs.Firing.{Fired, creations_of}
use Rattle.rn_model.specs.Good.{Good}
use Rattle.rn_model.specs.Lists.{count_of, ordered_values}
use Rattle.rn_model.specs.Markings.{Instance, Marking, IsMarking, fresh_instance, initial_marking, tokens_at}
use Rattle.rn_model.specs.Runs.{Firing, Fires, RunFrom, after_firing, end_from, end_of, entries_of}
use Rattle.rn_model.specs.SoundTokens.{HasSoundTokens}
use Rattle.rn_model.specs.Systems.{net_at, main_net}
use Rattle.rn_model.proofs.CountsAfterFiring.{next_after_firing}
use Rattle.rn_model.proofs.InitialTokens.{initial_tokens_are_sound}
use Rattle.rn_model.proofs.MarkingsOfRuns.{firings_keep_markings, initial_is_marking, runs_end_in_markings}
use Rattle.rn_model.proofs.RunLemmas.{prefixes_are_runs, rest_from}
use Rattle.rn_model.proofs.SoundAfter.{firings_keep_tokens_sound}
use Rattle.rn_model.proofs.SoundRuns.{runs_end_sound}
use Rattle.rn_model.proofs.ValueLists.{ordered_values_stay}
use Rattle.rn_table.proofs.InstanceLemmas.{same_number, other_number}
use Rattle.rn_moves.specs.declared.token.Moves.{Moves}
use Rattle.rn_moves.specs.Laws.{FirstIsInitial, MovesAddUp, MovesTakeWhatIsThere, times_put, times_taken}
use Rattle.rn_moves.specs.Moves.{AreMovesFrom, brought_at, initial_at}
use Rattle.rn_moves.specs.Order.{token_count}
use Rattle.rn_moves.proofs.MovedTokens.{enough, moved}

-- the places of the first instance
initial_of : (place : ℕ) (ps : List Place) (v : Value) →
    count_of v (unwrap_or (option_map (λ (p : Place). ordered_values p.initial) (slice_get ps place)) [])
    ≡ count_of v (option_map_or (λ (p : Place). p.initial) (slice_get ps place) [])
initial_of place ps v = by (slice_get ps place)
  where
    by : (o : Option Place) →
        count_of v (unwrap_or (option_map (λ (p : Place). ordered_values p.initial) o) [])
        ≡ count_of v (option_map_or (λ (p : Place). p.initial) o [])
    by None = refl
    by (Some p) = ordered_values_stay p.initial v

-- the first instance holds at first what comes at the start
abbrev HoldsFirst : System → ℕ → Value → ℕ → Type 0
HoldsFirst system place v n =
    count_of v (brought_at system 1 (main_net system ∷ []) n place)
    ≡ count_of v (tokens_at (initial_marking system) n place)

of_first : (system : System) (place : ℕ) (v : Value) → HoldsFirst system place v 1
of_first system place v =
    let main = main_net system in
    let places = (net_at system main).places in
    ap (count_of v) (append-nil (initial_at system main place))
    ∙ sym (initial_of place places v)
    ∙ sym (ap (λ o. count_of v (unwrap_or o [])) (slice_get-map (λ (p : Place). ordered_values p.initial) places place))

by_number : (system : System) (place : ℕ) (v : Value) (n : ℕ) (first : Bool) →
    nat_eq n 1 ≡ first → HoldsFirst system place v n
by_number system place v n true e =
    subst (HoldsFirst system place v) (sym (eqb-true n 1 e)) (of_first system place v)
by_number system place v n false e =
    let main = main_net system in
    let other : nat_eq 1 n ≡ false = other_number 1 n (λ same.
    let both : true ≡ false = sym (same_number 1) ∙ ap (λ k. nat_eq k 1) same ∙ e in
    let no : ⊥ = cc in no) in
    ap (λ c. count_of v (cond c (initial_at system main place) [] ++ [])) e
    ∙ sym (ap (λ c. count_of v (unwrap_or (option_and_then (λ (i : Instance). slice_get i.places place)
    (cond c (Some (fresh_instance system 1 main)) None)) [])) other)

pub first_is_initial : FirstIsInitial
first_is_initial system moves are n place v =
    are.put.counted n place v ∙ by_number system place v n (nat_eq n 1) refl

-- the moves of the first firings are the first moves
prefix_moves : (system : System) (next step : ℕ) (fs gs : List Firing) (ended : Option Reason)
    (ms : List Moves) → AreMovesFrom system next step (entries_of (fs ++ gs) ended) ms →
    AreMovesFrom system next step (entries_of fs None) (take (length fs) ms)
prefix_moves system next step [] gs ended ms are = tt
prefix_moves system next step (f ∷ fs) gs ended [] are = absurd are
prefix_moves system next step (f ∷ fs) gs ended (m ∷ ms) (of, rest) =
    (of, prefix_moves system (next + length (creations_of system f.binding)) (suc step) fs gs ended ms rest)

from_run : (system : System) (depth step : ℕ) (m : Marking) (fs : List Firing) (ms : List Moves) →
    Good system → IsMarking system m → HasSoundTokens system m → RunFrom system depth step m fs →
    AreMovesFrom system m.next step (entries_of fs None) ms → (n place : ℕ) (v : Value) →
    count_of v (tokens_at (end_from system step m fs) n place) + times_taken ms n place v
    ≡ count_of v (tokens_at m n place) + times_put ms n place v
from_run system depth step m [] [] good is sound run are n place v = refl
from_run system depth step m [] (mv ∷ ms) good is sound run are n place v = absurd are
from_run system depth step m (f ∷ fs) [] good is sound run are n place v = absurd are
from_run system depth step m (f ∷ fs) (mv ∷ ms) good is sound (fires, run) (of, rest) n place v =
    let next = after_firing system step m f in
    let given : Fired = record { marking = next; outs = f.outs } in
    let b = f.binding in
    let number = next_after_firing system m b step given fires.fired in
    let later = subst (λ k. AreMovesFrom system k (suc step) (entries_of fs None) ms) (sym number) rest in
    let here = moved system m b depth step given of.acts good is sound fires.enabled fires.fired of.are n place v in
    let others = from_run system depth (suc step) next fs ms good
    (firings_keep_markings system m b depth step given good is fires.enabled fires.fired)
    (firings_keep_tokens_sound system m b depth step given good is sound fires.enabled fires.fired)
    run later n place v in
    let taken = of.taken.counted n place v in
    let put = of.put.counted n place v in
    let all_taken = sum_by-cons (λ (moves : Moves). token_count moves.taken n place v) mv ms in
    let all_put = sum_by-cons (λ (moves : Moves). token_count moves.put n place v) mv ms in
    omega (arith, here, others, taken, put, all_taken, all_put)

pub moves_add_up : MovesAddUp
moves_add_up system depth fs gs ended [] good run are n place v = absurd are
moves_add_up system depth fs gs ended (first ∷ ms) good run (begins, are) n place v =
    let some = take (length fs) ms in
    let later = from_run system depth 1 (initial_marking system) fs some good
    (initial_is_marking system good) (initial_tokens_are_sound system good)
    (prefixes_are_runs system depth fs gs run)
    (prefix_moves system 2 1 fs gs ended ms are) n place v in
    let initial = first_is_initial system first begins n place v in
    let none : token_count first.taken n place v ≡ 0 = ap (λ ts. token_count ts n place v) begins.taken in
    let all_taken = sum_by-cons (λ (moves : Moves). token_count moves.taken n place v) first some in
    let all_put = sum_by-cons (λ (moves : Moves). token_count moves.put n place v) first some in
    omega (arith, later, initial, none, all_taken, all_put)

pub moves_take_what_is_there : MovesTakeWhatIsThere
moves_take_what_is_there system depth fs gs f moves good run of n place v =
    let m = end_of system fs in
    let before = prefixes_are_runs system depth fs (f ∷ gs) run in
    let number : 1 + length fs ≡ suc (length fs) = omega arith in
    let fires = subst (λ k. Fires system depth k m f) number
    (rest_from system depth 1 (initial_marking system) fs (f ∷ gs) run).0 in
    let given : Fired = record { marking = after_firing system (suc (length fs)) m f; outs = f.outs } in
    let some = enough system m f.binding depth (suc (length fs)) given of.acts good
    (runs_end_in_markings system depth fs good before) (runs_end_sound system depth fs good before)
    fires.enabled fires.fired of.are n place v in
    let taken = of.taken.counted n place v in
    omega (arith, some, taken)
