-- A binding that is enabled, and whose firing is undefined: the log ends in a fault.
-- net main { var y: int; trans t { action y = 1 / 0; } }
use Rattle.std.proofs.Common.{◌≡◌, ℕ, ◌≤◌, Bool, true, false, pos, [], ◌∷◌, length, refl, sym, subst, inl, arith}
use Rattle.std.specs.Prelude.{Some, Err, All, Contains, slice_get}
use Rattle.std.specs.Ordering.{is_eq}
use Rattle.std.proofs.lemmas.List.Elements.{All-nil, All-cons}
use Rattle.rn_value.proofs.Variants.{same_old}
use Rattle.rn_value.specs.Order.{inst_cmp}
use Rattle.rn_value.specs.declared.value.InstRef.{InstRef}
use Rattle.rn_value.specs.declared.value.InstRef.TheVariants.{Old}
use Rattle.rn_model.specs.declared.expr.Expr.TheVariants as E
use Rattle.rn_model.specs.declared.expr.OpKind.TheVariants.{Div}
use Rattle.rn_model.specs.declared.system.System.{System}
use Rattle.rn_model.specs.declared.system.Downlink.{Downlink}
use Rattle.rn_model.specs.declared.system.Action.TheVariants.{Set}
use Rattle.rn_model.specs.declared.binding.Node.{Node}
use Rattle.rn_model.specs.declared.binding.Binding.{Binding}
use Rattle.rn_model.specs.declared.log.FaultKind.TheVariants as Cause
use Rattle.rn_model.specs.declared.log.Options.{Options}
use Rattle.rn_model.specs.declared.log.Reason.TheVariants.{Dead, Fault}
use Rattle.rn_model.specs.Systems.{empty_transition, transition_of}
use Rattle.rn_model.specs.Markings.{Marking, initial_marking, net_of}
use Rattle.rn_model.specs.Bindings.{Shape, IsNodeOf, IsOfCreation, IsCalled}
use Rattle.rn_model.specs.Agreement.{Agrees, NodeAgrees}
use Rattle.rn_model.specs.Derivation.{entry, items_of, InBy, Derived, IsVarForced}
use Rattle.rn_model.specs.Enabling.{PlaceFits, HasRoom, Enabled}
use Rattle.rn_model.specs.Firing.{fire}
use Rattle.rn_model.specs.Runs.{Log, IsTrueEnd}
use Rattle.rn_model.proofs.Examples.ExampleSystems.{one_net, int_var, example_rules}
use Rattle.rn_model.proofs.EnablingLemmas.{idle, the_one}

abbrev sys : System
sys = one_net (int_var ∷ []) [] (record empty_transition { action_vars = 0 ∷ []; actions = Set 0 (E.Op Div (E.Int (pos 1)) (E.Int (pos 0))) ∷ [] })

abbrev n : Node
n = record { path = []; inst = Old 1; net = 0; transition = 0; values = [] }

abbrev b : Binding
b = record { nodes = n ∷ [] }

abbrev m : Marking
m = initial_marking sys

no_calls : (caller : Node) (i : ℕ) (d : Downlink) → Contains b.nodes caller → slice_get (transition_of sys caller).downlinks i ≡ Some d → ⊥
no_calls caller i d h e =
    let same : n ≡ caller = the_one n caller h in
    let here : slice_get (transition_of sys n).downlinks i ≡ Some d = rw (sym same) at e in
    let no : ⊥ = cc in no

shape : Shape sys b 0
shape = record {
  ascending = λ k d h. let no : ⊥ = omega (arith, h) in absurd no;
  start = (n, refl, record { exists = (1, refl); uplink = refl });
  nodes = All-cons (IsNodeOf sys) n [] (record { net = omega arith; transition = omega arith; values = refl }) (All-nil (IsNodeOf sys));
  children = λ caller i d h e. absurd (no_calls caller i d h e);
  called = All-cons (λ node. ¬ (node.path ≡ []) → IsCalled sys b node) n [] (λ no. absurd (no refl)) (All-nil (λ node. ¬ (node.path ≡ []) → IsCalled sys b node));
  deep = All-cons (λ node. length node.path ≤ 0) n [] (omega arith) (All-nil (λ node. length node.path ≤ 0));
  many = omega arith;
  created = All-cons (IsOfCreation sys b) n [] (λ path j e. let no : ⊥ = cc in absurd no) (All-nil (IsOfCreation sys b));
}

agrees : Agrees sys b
agrees = record {
  nodes = All-cons (NodeAgrees sys) n [] (record {
    kinds = tt;
    equalities = All-nil _;
    creations = λ j c e. let no : ⊥ = cc in absurd no;
    guards = All-nil _;
    arcs = All-nil _;
    downlinks = All-nil _;
    uplink = λ u e. let no : ⊥ = cc in absurd no;
  }) (All-nil (NodeAgrees sys));
  calls = λ caller i d node c. absurd (no_calls caller i d c.caller_there c.downlink_there);
}

abbrev AllForced : Node → Type 0
AllForced node = All (IsVarForced sys b (InBy sys b (length (items_of sys b))) node) (transition_of sys node).vars

derived : Derived sys b
derived = record {
  all_in = All-cons (InBy sys b 1) (entry n) [] (inl (n, (0, omega arith, refl), refl, refl)) (All-nil (InBy sys b 1));
  forced = All-cons AllForced n [] (All-nil (IsVarForced sys b (InBy sys b (length (items_of sys b))) n)) (All-nil AllForced);
}

-- no arc asks anything
place_fits : (inst : InstRef) (place : ℕ) (same : Bool) → is_eq (inst_cmp (Old 1) inst) ≡ same → PlaceFits sys m b inst place
place_fits inst place true e = idle sys m b inst place (rw e) (rw e) (rw e) (rw e)
place_fits inst place false e = idle sys m b inst place (rw e) (rw e) (rw e) (rw e)

enabled : Enabled sys m b 0
enabled = record {
  shape = shape;
  agrees = agrees;
  derived = derived;
  fits = record {
    there = All-cons (λ node. (k : ℕ) → node.inst ≡ Old k → net_of m k ≡ Some node.net) n [] (λ k e. subst (λ i. net_of m i ≡ Some 0) (same_old 1 k e) refl) (All-nil _);
    places = λ inst place. place_fits inst place (is_eq (inst_cmp (Old 1) inst)) refl;
    room = All-cons (HasRoom sys m b) n [] (λ k place most is has. absurd (let no : ⊥ = cc in no)) (All-nil _);
    made = All-nil _;
  };
}

undefined : fire sys m b 1 ≡ Err Cause.Action
undefined = simp example_rules

abbrev up_to : ℕ → Options
up_to steps = record { workers = 1; steps = steps; depth = 0; sweep_every = 0 }

ends_in_fault : Log sys (up_to 1000) [] (Some (Fault Cause.Action b))
ends_in_fault = record { run = tt; steps = omega arith; ends = (enabled, undefined, omega arith) }

-- it isn't by the other cause,
not_by_instances : ¬ IsTrueEnd sys (up_to 1000) [] (Fault Cause.Instances b)
not_by_instances fault = let no : ⊥ = cc (undefined, fault.1) in no

-- nor at the step limit,
not_at_limit : ¬ IsTrueEnd sys (up_to 0) [] (Fault Cause.Action b)
not_at_limit fault = let no : ⊥ = omega (arith, fault.2) in no

-- and the log isn't dead there
not_dead : ¬ IsTrueEnd sys (up_to 1000) [] Dead
not_dead dead = dead.0 b enabled
