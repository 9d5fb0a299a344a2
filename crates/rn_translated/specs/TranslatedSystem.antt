-- The system that stands for a weighted net, and the bindings and markings that stand for its
-- transitions and markings.
use Rattle.std.specs.Prelude.{ℕ, List, [], ◌∷◌, map, codes, replicate, nat_lt, None, if◌then◌else◌}
use Rattle.rn_value.specs.declared.value.InstRef.TheVariants.{Old}
use Rattle.rn_value.specs.declared.value.Value.{Value}
use Rattle.rn_value.specs.declared.value.Value.TheVariants as Value
use Rattle.rn_value.specs.declared.value.Kind.TheVariants as Kind
use Rattle.rn_model.specs.declared.expr.Expr.TheVariants as Expr
use Rattle.rn_model.specs.declared.system.ArcKind.{ArcKind}
use Rattle.rn_model.specs.declared.system.ArcKind.TheVariants.{Input, Output, FlexInput, FlexOutput}
use Rattle.rn_model.specs.declared.system.NetArc.{NetArc}
use Rattle.rn_model.specs.declared.system.Place.{Place}
use Rattle.rn_model.specs.declared.system.Transition.{Transition}
use Rattle.rn_model.specs.declared.system.Net.{Net}
use Rattle.rn_model.specs.declared.system.System.{System}
use Rattle.rn_model.specs.declared.binding.Binding.{Binding}
use Rattle.rn_model.specs.Systems.{empty_transition}
use Rattle.rn_model.specs.Markings.{Marking}
use Rattle.rn_model.specs.Runs.{Firing}
use Rattle.rn_weighted.specs.declared.weighted.Weighted.{Weighted}
use Rattle.rn_weighted.specs.declared.weighted.WPlace.{WPlace}
use Rattle.rn_weighted.specs.declared.weighted.WTransition.{WTransition}
use Rattle.rn_weighted.specs.declared.weighted.WArc.{WArc}

-- a black token
abbrev pub black : Value
black = Value.Tuple []

-- so many black tokens
abbrev pub blacks : ℕ → List Value
blacks n = replicate n black

-- the kind of an arc whose inscription is a list of tokens
abbrev pub flexible : ArcKind → ArcKind
flexible Input = FlexInput
flexible Output = FlexOutput
flexible kind = kind

-- An arc of weight 1 has the inscription `[]`, and one of weight k above 1 is a flexible arc with
-- the list of k black tokens.
abbrev pub net_arc : WArc → NetArc
net_arc arc =
    if nat_lt 1 arc.weight
    then record {
      kind = flexible arc.kind;
      place = arc.place;
      inscription = Expr.List (replicate arc.weight (Expr.Tuple []));
    }
    else record { kind = arc.kind; place = arc.place; inscription = Expr.Tuple [] }

-- a place, with as many black tokens
abbrev pub net_place : WPlace → Place
net_place place = record {
  name = place.name;
  kind = Kind.Tuple [];
  initial = blacks place.initial;
  max = None;
}

-- a transition with just these arcs
abbrev pub net_transition : WTransition → Transition
net_transition t = record empty_transition { name = t.name; arcs = map net_arc t.arcs }

-- the net `main` with the same places and transitions
abbrev pub translated_net : Weighted → Net
translated_net net = record {
  name = codes "main";
  vars = [];
  places = map net_place net.places;
  transitions = map net_transition net.transitions;
}

-- the system of this net alone
abbrev pub translated_system : Weighted → System
translated_system net = record { nets = translated_net net ∷ []; channels = [] }

-- an occurrence of a transition: the binding of one node without variables, in instance 1
abbrev pub occurrence : ℕ → Binding
occurrence t = record {
  nodes = record { path = []; inst = Old 1; net = 0; transition = t; values = [] } ∷ [];
}

-- its firing by worker 1, which prints nothing
abbrev pub firing_of : ℕ → Firing
firing_of t = record { worker = 1; binding = occurrence t; outs = [] }

-- instance 1 alone, whose places hold so many black tokens
abbrev pub marking_of : List ℕ → Marking
marking_of m = record {
  next = 2;
  instances = record { number = 1; net = 0; places = map blacks m } ∷ [];
}
