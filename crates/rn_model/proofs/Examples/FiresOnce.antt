-- A system that fires once: its binding is enabled at first, and not after its firing.
-- net main { place p = []; place q; trans t { in p; out q; } }
use Rattle.std.proofs.Common.{◌≡◌, ℕ, zero, suc, ◌≤◌, Bool, true, false, [], ◌∷◌, length, refl, sym, ◌∙◌, ap, subst, inl, inr, arith}
use Rattle.std.specs.Prelude.{Some, Ok, All, Contains, slice_get, nat_eq}
use Rattle.rn_value.proofs.Variants.{same_old}
use Rattle.rn_value.specs.Order.{inst_cmp}
use Rattle.std.specs.Ordering.{is_eq, nat_cmp}
use Rattle.std.proofs.Math.Dec.{T, eqb→eq}
use Rattle.std.proofs.lemmas.List.Elements.{All-nil, All-cons}
use Rattle.rn_value.specs.Kinds.{HasKind}
use Rattle.rn_value.specs.declared.value.InstRef.{InstRef}
use Rattle.rn_value.specs.declared.value.InstRef.TheVariants.{Old, New}
use Rattle.rn_value.specs.declared.value.Kind.TheVariants as Kind
use Rattle.rn_model.specs.declared.expr.Expr.TheVariants as E
use Rattle.rn_model.specs.declared.system.System.{System}
use Rattle.rn_model.specs.declared.system.Downlink.{Downlink}
use Rattle.rn_model.specs.declared.system.NetArc.{NetArc}
use Rattle.rn_model.specs.declared.system.ArcKind.TheVariants.{Input, Output}
use Rattle.rn_model.specs.declared.binding.Binding.{Binding}
use Rattle.rn_model.specs.declared.binding.Node.{Node}
use Rattle.rn_model.specs.Lists.{IsWithin, count_of}
use Rattle.rn_model.specs.Systems.{transition_of, awaits_action, place_kind, capacity}
use Rattle.rn_model.specs.Evaluation.{Env}
use Rattle.rn_model.specs.Bindings.{Shape, IsNodeOf, IsOfCreation, IsCalled, env_of}
use Rattle.rn_model.specs.Agreement.{Agrees, NodeAgrees, HasValueOf, inscribed_kind}
use Rattle.rn_model.specs.Derivation.{Item, entry, found, items_of, InBy, Derived, IsVarForced}
use Rattle.rn_model.specs.Demands.{taken_at, put_at, tested_at, inhibited_at}
use Rattle.std.specs.Cmp.{Equal-is}
use Rattle.std.proofs.lemmas.Map.Lookups.{exact_unsigned}
use Rattle.rn_model.specs.Markings.{Marking, initial_marking, tokens, net_of}
use Rattle.rn_model.specs.Firing.{fire}
use Rattle.rn_model.specs.Enabling.{PlaceFits, HasRoom, Fits, Enabled}
use Rattle.rn_model.specs.Runs.{Firing, Run, after_firing, marking_or, end_of}
use Rattle.rn_model.proofs.Examples.ExampleSystems.{black, arc_of, place_of, only_arcs, one_net, example_rules}
use Rattle.rn_model.proofs.DerivationLemmas.{hole_rules}
use Rattle.rn_model.proofs.KindRules.{kind_rules}
use Rattle.rn_model.proofs.EnablingLemmas.{not_in_nil, idle, the_one}

abbrev pub sys : System
sys = one_net [] (place_of (Kind.Tuple []) (black ∷ []) ∷ place_of (Kind.Tuple []) [] ∷ []) (only_arcs [] (arc_of Input 0 (E.Tuple []) ∷ arc_of Output 1 (E.Tuple []) ∷ []))

abbrev pub n : Node
n = record { path = []; inst = Old 1; net = 0; transition = 0; values = [] }

abbrev pub b : Binding
b = record { nodes = n ∷ [] }

taken_first : taken_at sys b (Old 1) 0 ≡ black ∷ []
taken_first = simp example_rules

put_second : put_at sys b (Old 1) 1 ≡ black ∷ []
put_second = simp example_rules

taken_second : taken_at sys b (Old 1) 1 ≡ []
taken_second = simp example_rules

begins : initial_marking sys ≡ record { next = 2; instances = record { number = 1; net = 0; places = (black ∷ []) ∷ [] ∷ [] } ∷ [] }
begins = refl

abbrev pub then_m : Marking
then_m = record { next = 2; instances = record { number = 1; net = 0; places = [] ∷ (black ∷ []) ∷ [] } ∷ [] }

fired : fire sys (initial_marking sys) b 1 ≡ Ok (record { marking = then_m; outs = [] })
fired = simp example_rules

no_calls : (caller : Node) (i : ℕ) (d : Downlink) → Contains b.nodes caller → slice_get (transition_of sys caller).downlinks i ≡ Some d → ⊥
no_calls caller i d h e =
    let same : n ≡ caller = the_one n caller h in
    let here : slice_get (transition_of sys n).downlinks i ≡ Some d = rw (sym same) at e in
    let no : ⊥ = cc in no

pub shape : Shape sys b 4
shape = record {
  ascending = λ k d h. let no : ⊥ = omega (arith, h) in absurd no;
  start = (n, refl, record { exists = (1, refl); uplink = refl });
  nodes = All-cons (IsNodeOf sys) n [] (record { net = omega arith; transition = omega arith; values = refl }) (All-nil (IsNodeOf sys));
  children = λ caller i d h e. absurd (no_calls caller i d h e);
  called = All-cons (λ node. ¬ (node.path ≡ []) → IsCalled sys b node) n [] (λ no. absurd (no refl)) (All-nil (λ node. ¬ (node.path ≡ []) → IsCalled sys b node));
  deep = All-cons (λ node. length node.path ≤ 4) n [] (omega arith) (All-nil (λ node. length node.path ≤ 4));
  many = omega arith;
  created = All-cons (IsOfCreation sys b) n [] (λ path j e. let no : ⊥ = cc in absurd no) (All-nil (IsOfCreation sys b));
}

abbrev env : Env
env = env_of sys n

black_is_black : HasKind black (Kind.Tuple [])
black_is_black = simp kind_rules

abbrev AgreesAt : NetArc → Type 0
AgreesAt arc = awaits_action (transition_of sys n) arc ≡ false → HasValueOf env arc.inscription (inscribed_kind arc.kind (place_kind sys 0 arc.place))

abbrev in_p : NetArc
in_p = arc_of Input 0 (E.Tuple [])

abbrev out_q : NetArc
out_q = arc_of Output 1 (E.Tuple [])

pub agrees : Agrees sys b
agrees = record {
  nodes = All-cons (NodeAgrees sys) n [] (record {
    kinds = tt;
    equalities = All-nil _;
    creations = λ j c e. let no : ⊥ = cc in absurd no;
    guards = All-nil _;
    arcs = All-cons AgreesAt in_p (out_q ∷ []) (λ h. (black, simp example_rules, black_is_black)) (All-cons AgreesAt out_q [] (λ h. (black, simp example_rules, black_is_black)) (All-nil AgreesAt));
    downlinks = All-nil _;
    uplink = λ u e. let no : ⊥ = cc in absurd no;
  }) (All-nil (NodeAgrees sys));
  calls = λ caller i d node c. absurd (no_calls caller i d c.caller_there c.downlink_there);
}

items_is : items_of sys b ≡ entry n ∷ found n 0 in_p ∷ []
items_is = simp hole_rules

abbrev In : ℕ → Item → Type 0
In = InBy sys b

start_in : In 0 (entry n)
start_in = (n, (0, omega arith, refl), refl, refl)

token_in : In 1 (found n 0 in_p)
token_in = inr (subst (λ items. Contains items (found n 0 in_p)) (sym items_is) (1, omega arith, refl), start_in)

abbrev AllForced : Node → Type 0
AllForced node = All (IsVarForced sys b (In (length (items_of sys b))) node) (transition_of sys node).vars

derived : Derived sys b
derived = record {
  all_in = subst (λ items. All (InBy sys b (length items)) items) (sym items_is) (All-cons (In 2) (entry n) (found n 0 in_p ∷ []) (inl (inl start_in)) (All-cons (In 2) (found n 0 in_p) [] (inl token_in) (All-nil (In 2))));
  forced = All-cons AllForced n [] (All-nil (IsVarForced sys b (In (length (items_of sys b))) n)) (All-nil AllForced);
}

abbrev pub m : Marking
m = initial_marking sys

-- no arc asks anything of another instance or another place
elsewhere : (inst : InstRef) (place : ℕ) → is_eq (inst_cmp (Old 1) inst) ≡ false → PlaceFits sys m b inst place
elsewhere inst place e = idle sys m b inst place (rw e) (rw e) (rw e) (rw e)

at_first : PlaceFits sys m b (Old 1) 0
at_first =
    let enough : IsWithin (taken_at sys b (Old 1) 0) (tokens m (Old 1) 0) = λ v. rw taken_first (omega arith) in
    let none : tested_at sys b (Old 1) 0 ≡ [] = simp example_rules in
    let no_inhibit : inhibited_at sys b (Old 1) 0 ≡ [] = simp example_rules in
    record { enough = enough; left = λ v h. absurd (not_in_nil v (rw none at h)); absent = λ v h. absurd (not_in_nil v (rw no_inhibit at h)); whole = inl (simp example_rules) }

at_one : (place : ℕ) (first second : Bool) → nat_eq 0 place ≡ first → nat_eq 1 place ≡ second → PlaceFits sys m b (Old 1) place
at_one place true second e f = subst (PlaceFits sys m b (Old 1)) (eqb→eq 0 place (subst T (sym e) tt)) at_first
at_one place false true e f = subst (PlaceFits sys m b (Old 1)) (eqb→eq 1 place (subst T (sym f) tt)) (idle sys m b (Old 1) 1 (simp example_rules) (simp example_rules) (simp example_rules) (simp example_rules))
at_one place false false e f = idle sys m b (Old 1) place (rw (e, f)) (rw (e, f)) (rw (e, f)) (rw (e, f))

at_inst : (inst : InstRef) (place : ℕ) (same : Bool) → is_eq (inst_cmp (Old 1) inst) ≡ same → PlaceFits sys m b inst place
at_inst inst place false e = elsewhere inst place e
at_inst (Old k) place true e =
    let same : 1 ≡ k = exact_unsigned 1 k ((Equal-is (nat_cmp 1 k)).0 e) in
    subst (λ i. PlaceFits sys m b (Old i) place) same (at_one place (nat_eq 0 place) (nat_eq 1 place) refl refl)
at_inst (New path j) place true e = let no : ⊥ = cc in absurd no

-- no place has a capacity
no_capacity : (place most : ℕ) → ¬ (capacity sys 0 place ≡ Some most)
no_capacity zero most e = let no : ⊥ = cc in no
no_capacity (suc zero) most e = let no : ⊥ = cc in no
no_capacity (suc (suc place)) most e = let no : ⊥ = cc in no

fits : Fits sys m b
fits = record {
  there = All-cons (λ node. (k : ℕ) → node.inst ≡ Old k → net_of m k ≡ Some node.net) n [] (λ k e. let same : 1 ≡ k = same_old 1 k e in subst (λ i. net_of m i ≡ Some 0) same refl) (All-nil _);
  places = λ inst place. at_inst inst place (is_eq (inst_cmp (Old 1) inst)) refl;
  room = All-cons (HasRoom sys m b) n [] (λ k place most is has. absurd (no_capacity place most has)) (All-nil _);
  made = All-nil _;
}

pub enabled : Enabled sys m b 4
enabled = record { shape = shape; agrees = agrees; derived = derived; fits = fits }

-- the run of this one firing, by worker 1
abbrev pub first : Firing
first = record { worker = 1; binding = b; outs = [] }

led : after_firing sys 1 (initial_marking sys) first ≡ then_m
led = ap (λ r. marking_or r (initial_marking sys)) fired

defined : fire sys (initial_marking sys) b 1 ≡ Ok (record { marking = after_firing sys 1 (initial_marking sys) first; outs = [] })
defined = fired ∙ ap (λ after. Ok (record { marking = after; outs = [] })) (sym led)

pub run : Run sys 4 (first ∷ [])
run = (record { enabled = enabled; fired = defined; worker = (omega arith, omega arith) }, tt)

pub ends : end_of sys (first ∷ []) ≡ then_m
ends = led

-- after it, the same binding isn't enabled
pub not_again : (depth : ℕ) → ¬ Enabled sys then_m b depth
not_again depth e =
    let enough = (e.fits.places (Old 1) 0).enough black in
    let one : count_of black (taken_at sys b (Old 1) 0) ≡ 1 = rw taken_first (simp example_rules) in
    let none : count_of black (tokens then_m (Old 1) 0) ≡ 0 = refl in
    let no : ⊥ = omega (arith, enough, one, none) in no
