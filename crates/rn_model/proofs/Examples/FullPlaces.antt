-- Places with a capacity: after a firing none holds more tokens.
use Rattle.std.proofs.Common.{◌≡◌, zero, suc, ◌≤◌, ◌+◌, pos, List, [], ◌∷◌, refl, subst}
use Rattle.std.proofs.Common.{arith}
use Rattle.std.specs.Prelude.{Some, codes}
use Rattle.std.proofs.lemmas.List.Elements.{All-contains}
use Rattle.rn_value.proofs.Variants.{same_old}
use Rattle.rn_value.specs.declared.value.InstRef.TheVariants.{Old, New}
use Rattle.rn_value.specs.declared.value.Kind.{Kind}
use Rattle.rn_value.specs.declared.value.Kind.TheVariants as Kind
use Rattle.rn_value.specs.declared.value.Value.{Value}
use Rattle.rn_value.specs.declared.value.Value.TheVariants as Value
use Rattle.rn_model.specs.declared.expr.Expr.TheVariants as E
use Rattle.rn_model.specs.declared.system.System.{System}
use Rattle.rn_model.specs.declared.system.Place.{Place}
use Rattle.rn_model.specs.declared.system.Transition.{Transition}
use Rattle.rn_model.specs.declared.system.ArcKind.TheVariants.{Input, Output}
use Rattle.rn_model.specs.declared.system.NetArc.{NetArc}
use Rattle.rn_model.specs.declared.system.Action.TheVariants.{Set}
use Rattle.rn_model.specs.declared.binding.Node.{Node}
use Rattle.rn_model.specs.declared.binding.Binding.{Binding}
use Rattle.rn_model.specs.Systems.{empty_transition}
use Rattle.rn_model.specs.Markings.{initial_marking}
use Rattle.rn_model.specs.Demands.{put_at, filled_at}
use Rattle.rn_model.specs.Firing.{Made, creations_of}
use Rattle.rn_model.specs.Enabling.{Fits, HasRoom, MadeHasRoom, held_after}
use Rattle.rn_model.proofs.Examples.ExampleSystems.{black, arc_of, place_of, only_arcs, one_net}
use Rattle.rn_model.proofs.Examples.ExampleSystems.{int_var, example_rules}
use Rattle.rn_model.proofs.DerivationLemmas.{var_rules}

-- a place of one token, which is there at first
abbrev full : Place
full = record { name = codes "p"; kind = Kind.Tuple []; initial = black ∷ []; max = Some 1 }

-- net main { place p max 1 = []; place q = []; trans t { .. } }
abbrev with_arcs : List NetArc → System
with_arcs arcs =
    one_net [] (full ∷ place_of (Kind.Tuple []) (black ∷ []) ∷ []) (only_arcs [] arcs)

abbrev n : Node
n = record { path = []; inst = Old 1; net = 0; transition = 0; values = [] }

abbrev b : Binding
b = record { nodes = n ∷ [] }

-- in q; out p;
abbrev put_alone : System
put_alone = with_arcs (arc_of Input 1 (E.Tuple []) ∷ arc_of Output 0 (E.Tuple []) ∷ [])

two_after : held_after put_alone (initial_marking put_alone) b 1 0 ≡ 2
two_after = simp example_rules

-- a full place has no room for a put
no_room : ¬ Fits put_alone (initial_marking put_alone) b
no_room fits =
    let room = All-contains (HasRoom put_alone (initial_marking put_alone) b) b.nodes n fits.room
    (0, omega arith, refl) in
    let one : held_after put_alone (initial_marking put_alone) b 1 0 ≤ 1 = room 1 0 1 refl refl in
    let no : ⊥ = omega (arith, one, two_after) in no

-- in p; out p;
abbrev take_and_put : System
take_and_put = with_arcs (arc_of Input 0 (E.Tuple []) ∷ arc_of Output 0 (E.Tuple []) ∷ [])

one_after : held_after take_and_put (initial_marking take_and_put) b 1 0 ≡ 1
one_after = simp example_rules

-- what is taken makes room for what is put in the same firing
take_makes_room : HasRoom take_and_put (initial_marking take_and_put) b n
take_makes_room k zero most is has =
    let instance : 1 ≡ k = same_old 1 k is in
    let one : 1 ≡ most = cc in
    subst (λ i. held_after take_and_put (initial_marking take_and_put) b i 0 ≤ most) instance
    (omega (arith, one_after, one))
take_makes_room k (suc zero) most is has = let no : ⊥ = cc in absurd no
take_makes_room k (suc (suc place)) most is has = let no : ⊥ = cc in absurd no

-- An output that holds an action variable counts, though its value isn't known before the firing.
-- net main { var y: int; place p: int max 0; trans t { action y = 1; out p: y; } }
abbrev by_action : System
by_action = one_net (int_var ∷ [])
    (record { name = codes "p"; kind = Kind.Int; initial = []; max = Some 0 } ∷ [])
    (record empty_transition {
      action_vars = 0 ∷ [];
      actions = Set 0 (E.Int (pos 1)) ∷ [];
      arcs = arc_of Output 0 (E.Var 0) ∷ [];
    })

not_known : put_at by_action b (Old 1) 0 ≡ []
not_known = simp example_rules

counted : filled_at by_action b (Old 1) 0 ≡ 1
counted = simp (example_rules, var_rules)

-- An instance that is made begins full, and has no room for what its own node puts.
-- channel c(); net main { var n: net; trans t { n: new w; n:c(); } }
-- net w { place p max 1 = []; trans u { :c(); out p; } }
abbrev t : Transition
t = record empty_transition {
  vars = 0 ∷ [];
  creations = record { var = 0; net = 1 } ∷ [];
  downlinks = record { target = E.Var 0; channel = 0; args = [] } ∷ [];
}

abbrev u : Transition
u = record empty_transition {
  uplink = Some (record { channel = 0; args = [] });
  arcs = arc_of Output 0 (E.Tuple []) ∷ [];
}

abbrev making : System
making = record {
  nets =
      record {
        name = codes "main";
        vars = record { name = codes "n"; kind = Kind.Net } ∷ [];
        places = [];
        transitions = t ∷ [];
      }
      ∷ record { name = codes "w"; vars = []; places = full ∷ []; transitions = u ∷ [] }
      ∷ [];
  channels = record { name = codes "c"; kinds = [] } ∷ [];
}

abbrev root : Node
root = record n { values = Value.Inst (New [] 0) ∷ [] }

abbrev child : Node
child = record { path = 0 ∷ []; inst = New [] 0; net = 1; transition = 0; values = [] }

abbrev both : Binding
both = record { nodes = root ∷ child ∷ [] }

abbrev made : Made
made = record { path = []; index = 0; net = 1 }

filled_by_child : filled_at making both (New [] 0) 0 ≡ 1
filled_by_child = simp example_rules

made_full : ¬ Fits making (initial_marking making) both
made_full fits =
    let room = All-contains (MadeHasRoom making both) (creations_of making both) made fits.made
    (0, omega arith, refl) in
    let one : 1 + filled_at making both (New [] 0) 0 ≤ 1 = room 0 full 1 refl refl in
    let no : ⊥ = omega (arith, one, filled_by_child) in no
