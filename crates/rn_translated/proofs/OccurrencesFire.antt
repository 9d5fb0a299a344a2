-- The firing of a transition's occurrence leaves the marking of the weighted net's firing.
use Rattle.std.proofs.Common.{◌≡◌, ℕ, ◌+◌, ◌-◌, Bool, true, false, not, ◌&&◌, ◌||◌, List, [], ◌∷◌, ◌++◌, map, length, refl, ap, ◌∙◌}
use Rattle.std.specs.Prelude.{Option, Some, None, Result, Ok, Err, All, slice_get, flat_map, option_map, option_and_then, if◌then◌else◌}
use Rattle.std.specs.List.{list_all, enumerate_from}
use Rattle.std.proofs.lemmas.List.{replicate-append-replicate}
use Rattle.rn_value.specs.declared.value.InstRef.TheVariants.{Old}
use Rattle.rn_value.specs.declared.value.Value.{Value}
use Rattle.rn_model.specs.declared.system.NetArc.{NetArc}
use Rattle.rn_model.specs.declared.system.Transition.{Transition}
use Rattle.rn_model.specs.declared.binding.Node.{Node}
use Rattle.rn_model.specs.declared.log.FaultKind.{FaultKind}
use Rattle.rn_model.specs.declared.log.FaultKind.TheVariants as Fault
use Rattle.rn_model.specs.Lists.{ordered_values, without_each}
use Rattle.rn_model.specs.Evaluation.{Env}
use Rattle.rn_model.specs.Demands.{puts, rest_at, asked_at, cleared_at}
use Rattle.rn_model.specs.Markings.{Marking}
use Rattle.rn_model.specs.Firing.{Made, Acts, Effects, Fired, creations_of, node_acts, acts_before, after_actions, output_defined, effects, effects_with, fire, firing_result, tokens_after, marking_after, too_many}
use Rattle.rn_weighted.specs.declared.weighted.Weighted.{Weighted}
use Rattle.rn_weighted.specs.declared.weighted.WTransition.{WTransition}
use Rattle.rn_weighted.specs.Weighted.{IsWArc}
use Rattle.rn_translated.specs.WeightedRuns.{total, taken, put, w_after}
use Rattle.rn_translated.specs.TranslatedSystem.{black, blacks, net_arc, net_transition, occurrence, marking_of}
use Rattle.rn_translated.proofs.BlackTokens.{ordered_blacks, some_less}
use Rattle.rn_translated.proofs.ArcDemands.{puts_blacks, arcs_ask}
use Rattle.rn_translated.proofs.OneOccurrence.{sys, node, transition_is}
use Rattle.rn_translated.proofs.OccurrencesFit.{asked_here, taken_is, cleared_is}

-- no output holds an action variable, since there are none
one_defined : (output value : Bool) → not (output && false) || value ≡ true
one_defined true value = refl
one_defined false value = refl

all_defined : (wt : WTransition) (env : Env) (arcs : List NetArc) →
    list_all (output_defined (net_transition wt) env) arcs ≡ true
all_defined wt env [] = refl
all_defined wt env (a ∷ arcs) = rw (one_defined _ _, all_defined wt env arcs) refl

module _ (net : Weighted) (t : ℕ) (wt : WTransition) (is : slice_get net.transitions t ≡ Some wt)
    (arcs : All (IsWArc (length net.places)) wt.arcs) (step : ℕ) where
  abbrev the_node : Node
  the_node = node net t wt is arcs

  abbrev before : Acts
  before = acts_before (sys net t wt is arcs) step the_node

  abbrev acts_of : Transition → Option Acts
  acts_of tr =
      option_and_then (λ acts. if list_all (output_defined tr acts.env) tr.arcs then Some acts else None)
      (after_actions tr.actions before)

  acts_are : node_acts (sys net t wt is arcs) step the_node ≡ Some before
  acts_are =
      ap acts_of (transition_is net t wt is arcs)
      ∙ ap (λ fine. if fine then Some before else None)
      (all_defined wt before.env (map net_arc wt.arcs))

  abbrev done : Effects
  done = record { read = record { node = the_node; env = before.env } ∷ []; outs = [] }

  effects_are : effects (sys net t wt is arcs) (occurrence t) 2 step ≡ Some done
  effects_are =
      ap
      (option_and_then
      (λ acts. option_map (effects_with the_node acts) (Some (record { read = []; outs = [] }))))
      acts_are

  none_made : creations_of (sys net t wt is arcs) (occurrence t) ≡ []
  none_made =
      ap
      (λ tr. map (λ c. record { path = []; index = c.0; net = c.1.net }) (enumerate_from 0 tr.creations)
      ++ [])
      (transition_is net t wt is arcs)

  abbrev changed : ℕ → List Value → List Value
  changed place vs =
      tokens_after (sys net t wt is arcs) (occurrence t) done 1 place
      (rest_at (sys net t wt is arcs) (occurrence t) (Old 1) place vs)

  rest_is : (place n : ℕ) →
      rest_at (sys net t wt is arcs) (occurrence t) (Old 1) place (blacks n)
      ≡ blacks (n - total taken wt place)
  rest_is place n =
      ap (λ ws. without_each (without_each (blacks n) ws) (flat_map (λ vs. vs)
      (cleared_at (sys net t wt is arcs) (occurrence t) (Old 1) place)))
      (taken_is net t wt is arcs place)
      ∙ ap
      (λ cs. without_each (without_each (blacks n) (blacks (total taken wt place)))
      (flat_map (λ vs. vs) cs)) (cleared_is net t wt is arcs place)
      ∙ some_less n (total taken wt place)

  put_is : (place : ℕ) →
      asked_at puts (sys net t wt is arcs) done.read (Old 1) place ≡ blacks (total put wt place)
  put_is place =
      asked_here net t wt is arcs puts before.env place
      ∙ arcs_ask puts put puts_blacks before.env place (length net.places) wt.arcs arcs

  place_changed : (place n : ℕ) →
      changed place (blacks n) ≡ blacks ((n - total taken wt place) + total put wt place)
  place_changed place n =
      ap
      (λ vs. ordered_values
      (vs ++ asked_at puts (sys net t wt is arcs) done.read (Old 1) place)) (rest_is place n)
      ∙ ap (λ vs. ordered_values (blacks (n - total taken wt place) ++ vs)) (put_is place)
      ∙ ap ordered_values
      (replicate-append-replicate (n - total taken wt place) (total put wt place) black)
      ∙ ordered_blacks ((n - total taken wt place) + total put wt place)

  places_changed : (k : ℕ) (m : List ℕ) →
      map (λ p. changed p.0 p.1) (enumerate_from k (map blacks m))
      ≡ map blacks
      (map (λ e. (e.1 - total taken wt e.0) + total put wt e.0) (enumerate_from k m))
  places_changed k [] = refl
  places_changed k (n ∷ m) =
      ap (λ vs. vs ∷ map (λ p. changed p.0 p.1) (enumerate_from (k + 1) (map blacks m)))
      (place_changed k n)
      ∙ ap (λ others. blacks ((n - total taken wt k) + total put wt k) ∷ others)
      (places_changed (k + 1) m)

  abbrev given : Marking → List Made → Result Fired FaultKind
  given m made =
      if too_many 2 (length made) then Err Fault.Instances
      else Ok (record {
        marking = marking_after (sys net t wt is arcs) m made (occurrence t) done;
        outs = [];
      })

  -- the occurrence's firing takes the in weights and puts the out weights
  pub fires : (m : List ℕ) →
      fire (sys net t wt is arcs) (marking_of m) (occurrence t) step
      ≡ Ok (record { marking = marking_of (w_after wt m); outs = [] })
  fires m =
      ap (firing_result (sys net t wt is arcs) (marking_of m) (occurrence t)) effects_are
      ∙ ap (given (marking_of m)) none_made
      ∙ ap
      (λ places. Ok (record {
        marking = record {
          next = 2;
          instances = record { number = 1; net = 0; places = places } ∷ [];
        };
        outs = [];
      }))
      (places_changed 0 m)
