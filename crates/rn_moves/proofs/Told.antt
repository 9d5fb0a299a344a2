-- The moves of each log of a good system can be listed.
use Rattle.std.proofs.Common.{◌≡◌, ℕ, suc, ◌+◌, ◌<◌, ◌≤◌, Bool, true, false, List, [], ◌∷◌, ◌++◌, length}
use Rattle.std.proofs.Common.{refl, sym, ap, ◌∙◌, subst, arith, length-append}
use Rattle.std.specs.Prelude.{Option, Some, None, Ok, Contains, flat_map, nat_le}
use Rattle.std.specs.Prelude.{option_map}
use Rattle.std.proofs.lemmas.Bool.Decides.{nat_tests}
use Rattle.std.proofs.lemmas.List.{length-map}
use Rattle.std.proofs.lemmas.List.Elements.{All-contains_itself, All-weaker}
use Rattle.rn_items.proofs.Bools.{true_both}
use Rattle.rn_value.specs.Names.{instances_within}
use Rattle.rn_value.specs.declared.value.Value.{Value}
use Rattle.rn_model.specs.declared.system.System.{System}
use Rattle.rn_model.specs.declared.binding.Binding.{Binding}
use Rattle.rn_model.specs.declared.log.Reason.{Reason}
use Rattle.rn_model.specs.Firing.{Effects, Fired, creations_of, effects, fire, firing_result, too_many}
use Rattle.rn_model.specs.Good.{Good}
use Rattle.rn_model.specs.Lists.{count_of}
use Rattle.rn_model.specs.Markings.{IsMarking, Marking, initial_marking, tokens_at}
use Rattle.rn_model.specs.Runs.{Firing, Fires, RunFrom, after_firing, entries_of}
use Rattle.rn_model.specs.SoundTokens.{HasSoundTokens}
use Rattle.rn_model.proofs.AskedValues.{counted}
use Rattle.rn_model.proofs.CountsAfterFiring.{next_after_firing}
use Rattle.rn_model.proofs.DeadInstances.{below_next, fired_as}
use Rattle.rn_model.proofs.InitialTokens.{initial_tokens_are_sound}
use Rattle.rn_model.proofs.MarkingsOfRuns.{firings_keep_markings, initial_is_marking}
use Rattle.rn_model.proofs.PassingInstances.{names_passing}
use Rattle.rn_model.proofs.SoundAfter.{firings_keep_tokens_sound}
use Rattle.rn_model.proofs.NumbersOfRuns.{is_given, holder_there, stays_within}
use Rattle.rn_model.proofs.InstancesWithin.{is_low, within_is_only}
use Rattle.rn_moves.specs.declared.token.Token.{Token}
use Rattle.rn_moves.specs.declared.token.Moves.{Moves}
use Rattle.rn_moves.specs.Laws.{LogsHaveMoves}
use Rattle.rn_moves.specs.link.Movable.{AreWithin, HasMoves, HaveMoves}
use Rattle.rn_moves.specs.Moves.{AreFirst, nets_by}
use Rattle.rn_moves.specs.MovesText.{nets_in, nets_of}
use Rattle.rn_moves.proofs.Counted.{is_counted}
use Rattle.rn_moves.proofs.LogMoves.{first_is_initial}
use Rattle.rn_moves.proofs.MovedTokens.{enough, moved}

-- a token names only instances below the next number
token_within : (system : System) (m : Marking) (last n place : ℕ) (v : Value) →
    IsMarking system m → HasSoundTokens system m → m.next ≤ last + 1 →
    0 < count_of v (tokens_at m n place) → instances_within v last ≡ true
token_within system m last n place v is sound high some =
    let has = counted v (tokens_at m n place) some in
    let held = holder_there m n place v has in
    let token = sound n held.0.net place v (ap (option_map (λ i. i.net)) held.1) has in
    within_is_only last v ∙ names_passing (is_low last) v (record {
      old = λ k said.
          let there = token.there k said in
          let low = (is_given system m k is there).0 in
          let below = below_next system m k is there in
          true_both (nat_le 1 k) (nat_le k last) (grind (arith, nat_tests)) (grind (arith, nat_tests));
      new = λ path j news. let both : true ≡ false = sym news ∙ token.old in absurd (let no : ⊥ = cc in no);
    })

-- the tokens of the start name no instance but the first
pub first_within : (system : System) (moves : Moves) (last : ℕ) → Good system → 1 ≤ last →
    AreFirst system moves → AreWithin last moves.put
first_within system moves last good low are =
    All-weaker (Contains moves.put) (λ t. instances_within t.value last ≡ true) (λ t there.
    let some = is_counted t moves.put there in
    let held = first_is_initial system moves are t.inst t.place t.value in
    token_within system (initial_marking system) last t.inst t.place t.value
    (initial_is_marking system good) (initial_tokens_are_sound system good) (omega (arith, low))
    (omega (arith, some, held))) moves.put (All-contains_itself moves.put)

-- a defined firing doesn't make too many instances
few_made : (system : System) (m : Marking) (b : Binding) (step : ℕ) (f : Fired) →
    fire system m b step ≡ Ok f → too_many m.next (length (creations_of system b)) ≡ false
few_made system m b step f e =
    by (effects system b m.next step) (too_many m.next (length (creations_of system b))) refl e
  where
    by : (o : Option Effects) (over : Bool) →
        too_many m.next (length (creations_of system b)) ≡ over → firing_result system m b o ≡ Ok f →
        over ≡ false
    by None over is e = absurd (let no : ⊥ = cc in no)
    by (Some acts) true is e = let undefined = rw is at e in absurd (let no : ⊥ = cc in no)
    by (Some acts) false is e = refl

module _ (system : System) (depth last : ℕ) (good : Good system) where
  -- The moves of a firing of a run are within, where the numbers after it are.
  has_moves : (step : ℕ) (m : Marking) (f : Firing) → IsMarking system m → HasSoundTokens system m →
      m.next ≤ 1000001 → step ≤ 200001 → Fires system depth step m f →
      m.next + length (creations_of system f.binding) ≤ last + 1 →
      HasMoves system last m.next step f.binding
  has_moves step m f is sound low steps fires high =
      let next = after_firing system step m f in
      let b = f.binding in
      let given : Fired = record { marking = next; outs = f.outs } in
      let as_fired = fired_as system m b step given fires.fired in
      let few = few_made system m b step given fires.fired in
      let number = next_after_firing system m b step given fires.fired in
      let after_is = firings_keep_markings system m b depth step given good is fires.enabled fires.fired in
      let after_sound = firings_keep_tokens_sound system m b depth step given good is sound fires.enabled fires.fired in
      record {
        defined = record {
          nodes = fires.enabled.shape.nodes;
          kinds = λ k d h. (fires.enabled.agrees.nodes k d h).kinds;
          low = stays_within m.next (length (creations_of system b)) low few;
          in_time = steps;
          acts = as_fired.acts;
          are = as_fired.are;
        };
        within = λ moves of. (
          each_within moves.taken (λ t there.
              let some = is_counted t moves.taken there in
              let of_taken = of.taken.counted t.inst t.place t.value in
              let held = enough system m b depth step given of.acts good is sound fires.enabled fires.fired of.are t.inst t.place t.value in
              token_within system m last t.inst t.place t.value is sound (omega (arith, high))
              (omega (arith, some, of_taken, held))),
          each_within moves.put (λ t there.
              let some = is_counted t moves.put there in
              let of_put = of.put.counted t.inst t.place t.value in
              let held = enough system m b depth step given of.acts good is sound fires.enabled fires.fired of.are t.inst t.place t.value in
              let come = moved system m b depth step given of.acts good is sound fires.enabled fires.fired of.are t.inst t.place t.value in
              token_within system next last t.inst t.place t.value after_is after_sound (omega (arith, high, number))
              (omega (arith, some, of_put, held, come))),
        );
      }
    where
      each_within : (ts : List Token) →
          ((t : Token) → Contains ts t → instances_within t.value last ≡ true) → AreWithin last ts
      each_within ts each =
          All-weaker (Contains ts) (λ t. instances_within t.value last ≡ true) each ts (All-contains_itself ts)

  from_run : (step : ℕ) (m : Marking) (fs : List Firing) (ended : Option Reason) →
      IsMarking system m → HasSoundTokens system m → m.next ≤ 1000001 →
      step + length fs ≤ 200001 → RunFrom system depth step m fs →
      m.next + length (flat_map (nets_in system) (entries_of fs ended)) ≤ last + 1 →
      HaveMoves system last m.next step (entries_of fs ended)
  from_run step m [] None is sound low steps run high = tt
  from_run step m [] (Some reason) is sound low steps run high = tt
  from_run step m (f ∷ fs) ended is sound low steps (fires, run) high =
      let next = after_firing system step m f in
      let b = f.binding in
      let given : Fired = record { marking = next; outs = f.outs } in
      let few = few_made system m b step given fires.fired in
      let number = next_after_firing system m b step given fires.fired in
      let stays = stays_within m.next (length (creations_of system b)) low few in
      let rest = flat_map (nets_in system) (entries_of fs ended) in
      let both : length (nets_by system b ++ rest) ≡ length (nets_by system b) + length rest =
      length-append (nets_by system b) rest in
      let made : length (nets_by system b) ≡ length (creations_of system b) =
      length-map (creations_of system b) (λ c. c.net) in (
        has_moves step m f is sound low (omega (arith, steps)) fires (omega (arith, high, both, made)),
        subst (λ k. HaveMoves system last k (suc step) (entries_of fs ended)) number
            (from_run (suc step) next fs ended
            (firings_keep_markings system m b depth step given good is fires.enabled fires.fired)
            (firings_keep_tokens_sound system m b depth step given good is sound fires.enabled fires.fired)
            (omega (arith, number, stays)) (omega (arith, steps)) run
            (omega (arith, high, both, made, number))),
      )

pub logs_have_moves : LogsHaveMoves
logs_have_moves system options fs ended good limits log =
    let steps = log.steps in
    let most = limits.steps in
    from_run system options.depth (length (nets_of system (entries_of fs ended))) good 1
    (initial_marking system) fs ended (initial_is_marking system good)
    (initial_tokens_are_sound system good) (omega arith) (omega (arith, steps, most)) log.run
    (omega arith)
