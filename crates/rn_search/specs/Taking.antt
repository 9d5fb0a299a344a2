-- What decisions take of a place.
use Rattle.std.specs.Prelude.{ℕ, ◌<◌, List, [], length, flat_map, slice_get, nat_eq}
use Rattle.std.specs.Prelude.{if◌then◌else◌}
use Rattle.std.specs.Option.{option_map_or}
use Rattle.std.specs.Ordering.{is_eq}
use Rattle.rn_value.specs.Order.{inst_cmp}
use Rattle.rn_value.specs.declared.value.InstRef.{InstRef}
use Rattle.rn_value.specs.declared.value.Value.{Value}
use Rattle.rn_model.specs.declared.system.System.{System}
use Rattle.rn_model.specs.declared.system.NetArc.{NetArc}
use Rattle.rn_model.specs.declared.binding.Binding.{Binding}
use Rattle.rn_model.specs.Lists.{IsWithin}
use Rattle.rn_model.specs.Demands.{takes}
use Rattle.rn_model.specs.Markings.{tokens}
use Rattle.rn_growing.specs.declared.decision.Decision.{Decision}
use Rattle.rn_growing.specs.declared.decision.Decision.TheVariants.{Found}
use Rattle.rn_growing.specs.Decisions.{transition_in}
use Rattle.rn_growing.specs.Turns.{AreInTurn}
use Rattle.rn_search.specs.Sought.{Sought, Leads}
use Rattle.std.specs.Prelude.{◌≡◌, Some}
use Rattle.rn_model.specs.declared.system.ArcKind.TheVariants.{FlexInput}
use Rattle.rn_model.specs.Demands.{elements}
use Rattle.rn_model.specs.Evaluation.{Env, worth}
use Rattle.rn_growing.specs.Turns.{IsEntered}
use Rattle.rn_search.specs.Points.{tokens_of}
use Rattle.rn_search.specs.Missing.{IsKnown}
use Rattle.rn_growing.specs.declared.decision.Head.{Head}

module _ (system : System) (inst : InstRef) (place : ℕ) where
  -- what an arc takes that found this value, if it is an arc of this place
  abbrev pub takes_here : Value → NetArc → List Value
  takes_here v x = if nat_eq x.place place then takes x.kind v else []

  -- what a decision takes of a place of an instance: the token of an in or reserve arc
  abbrev pub taken_by : Decision → List Value
  taken_by (Found head k v) =
      if is_eq (inst_cmp head.inst inst)
      then option_map_or (takes_here v) (slice_get (transition_in system head).arcs k) []
      else []
  taken_by _ = []

  -- what all of them take
  abbrev pub taken_so_far : List Decision → List Value
  taken_so_far ds = flat_map taken_by ds

-- A place holds each token at least as often as the decisions take it.
abbrev pub TakenAreThere : Type 0
TakenAreThere = (sought : Sought) (ds : List Decision) (b : Binding) (inst : InstRef)
    (place : ℕ) → Leads sought ds b → AreInTurn sought.system ds → 0 < length ds →
    IsWithin (taken_so_far sought.system inst place ds) (tokens sought.marking inst place)

-- The place of a flexible arc of a node that was entered, whose list is known, holds each element
-- as often as the list.
abbrev pub KnownListsAreThere : Type 0
KnownListsAreThere = (sought : Sought) (ds : List Decision) (b : Binding) (head : Head) (k : ℕ)
    (x : NetArc) (v : Value) (env : Env) → Leads sought ds b → AreInTurn sought.system ds →
    0 < length ds → IsEntered ds head →
    slice_get (transition_in sought.system head).arcs k ≡ Some x → x.kind ≡ FlexInput →
    IsKnown sought.system ds head x.inscription env → worth x.inscription env ≡ Some v →
    IsWithin (elements v) (tokens_of sought head k)
