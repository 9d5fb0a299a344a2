-- A transition that makes an instance and calls it in the same firing.
-- net main { var n: net; place go = []; place keep: net; trans t { in go; n: new w; n:init(7); out keep: n; } }
-- net w { var x: int; place v: int; place s = []; trans init { :init(x); out v: x; } }
use Rattle.std.proofs.Common.{◌≡◌, ℕ, pos, List, [], ◌∷◌, length, refl, sym, ap, ◌∙◌, subst, inl, inr, arith}
use Rattle.std.specs.Prelude.{Some, Ok, Contains, All, codes}
use Rattle.std.proofs.lemmas.List.Elements.{All-nil, All-cons}
use Rattle.rn_value.specs.declared.value.InstRef.TheVariants.{Old, New}
use Rattle.rn_value.specs.declared.value.Kind.TheVariants as Kind
use Rattle.rn_value.specs.declared.value.Value.{Value}
use Rattle.rn_model.specs.declared.expr.Expr.TheVariants as E
use Rattle.rn_model.specs.declared.system.System.{System}
use Rattle.rn_model.specs.declared.system.Net.{Net}
use Rattle.rn_model.specs.declared.system.Transition.{Transition}
use Rattle.rn_model.specs.declared.system.Downlink.{Downlink}
use Rattle.rn_model.specs.declared.system.NetArc.{NetArc}
use Rattle.rn_model.specs.declared.system.ArcKind.TheVariants.{Input, Output}
use Rattle.rn_model.specs.declared.binding.Node.{Node}
use Rattle.rn_model.specs.declared.binding.Binding.{Binding}
use Rattle.rn_model.specs.Lists.{HaveOneValue}
use Rattle.rn_model.specs.Systems.{empty_transition, transition_of}
use Rattle.rn_model.specs.Markings.{Marking, initial_marking}
use Rattle.rn_model.specs.Bindings.{Calls}
use Rattle.rn_model.specs.Firing.{fire}
use Rattle.rn_model.specs.Derivation.{Item, entry, found, target, downlink_arg, uplink_arg, items_of, InBy, Derived, IsVarForced, Forced, term_value_at}
use Rattle.rn_model.proofs.Examples.ExampleSystems.{int, black, arc_of, place_of, example_rules}
use Rattle.rn_model.proofs.NamingRules.{naming_rules}
use Rattle.rn_model.proofs.DerivationLemmas.{term_rules, hole_rules}

abbrev call : Downlink
call = record { target = E.Var 0; channel = 0; args = E.Int (pos 7) ∷ [] }

abbrev in_go : NetArc
in_go = arc_of Input 0 (E.Tuple [])

abbrev t : Transition
t = record empty_transition { vars = 0 ∷ []; creations = record { var = 0; net = 1 } ∷ []; downlinks = call ∷ []; arcs = in_go ∷ arc_of Output 1 (E.Var 0) ∷ [] }

abbrev init : Transition
init = record empty_transition { vars = 0 ∷ []; uplink = Some (record { channel = 0; args = E.Var 0 ∷ [] }); arcs = arc_of Output 0 (E.Var 0) ∷ [] }

abbrev main : Net
main = record { name = codes "main"; vars = record { name = codes "n"; kind = Kind.Net } ∷ []; places = place_of (Kind.Tuple []) (black ∷ []) ∷ place_of Kind.Net [] ∷ []; transitions = t ∷ [] }

abbrev w : Net
w = record { name = codes "w"; vars = record { name = codes "x"; kind = Kind.Int } ∷ []; places = place_of Kind.Int [] ∷ place_of (Kind.Tuple []) (black ∷ []) ∷ []; transitions = init ∷ [] }

abbrev sys : System
sys = record { nets = main ∷ w ∷ []; channels = record { name = codes "init"; kinds = Kind.Int ∷ [] } ∷ [] }

abbrev root : Node
root = record { path = []; inst = Old 1; net = 0; transition = 0; values = Value.Inst (New [] 0) ∷ [] }

abbrev child : Node
child = record { path = 0 ∷ []; inst = New [] 0; net = 1; transition = 0; values = int 7 ∷ [] }

abbrev b : Binding
b = record { nodes = root ∷ child ∷ [] }

-- the firing makes instance 2, with its initial token and what the child puts
abbrev after : Marking
after = record { next = 3; instances = record { number = 1; net = 0; places = [] ∷ (Value.Inst (Old 2) ∷ []) ∷ [] } ∷ record { number = 2; net = 1; places = (int 7 ∷ []) ∷ (black ∷ []) ∷ [] } ∷ [] }

fired : fire sys (initial_marking sys) b 1 ≡ Ok (record { marking = after; outs = [] })
fired = simp (example_rules, naming_rules)

items_are : items_of sys b ≡ entry root ∷ found root 0 in_go ∷ entry child ∷ []
items_are = simp hole_rules

abbrev In : ℕ → Item → Type 0
In = InBy sys b

root_in : In 0 (entry root)
root_in = (root, (0, omega arith, refl), refl, refl)

calls_child : Calls sys b root 0 call child
calls_child = record { caller_there = (0, omega arith, refl); node_there = (1, omega arith, refl); downlink_there = refl; path = refl }

-- the creation forces n
var_n : (In : Item → Type 0) → In (entry root) → IsVarForced sys b In root 0
var_n In there = (Value.Inst (New [] 0), λ a satisfies. ap Some ((satisfies (entry root) there).creations 0 (record { var = 0; net = 1 }) refl))

target_forced : Forced sys b (In 0) (λ a. term_value_at a root (target 0) (E.Var 0))
target_forced = ((var_n (In 0) root_in).0, λ a satisfies. simp term_rules ((var_n (In 0) root_in).1 a satisfies))

child_in : In 1 (entry child)
child_in = inr (subst (λ items. Contains items (entry child)) (sym items_are) (2, omega arith, refl), (root, 0, call, calls_child, root_in, target_forced))

token_in : In 1 (found root 0 in_go)
token_in = inr (subst (λ items. Contains items (found root 0 in_go)) (sym items_are) (1, omega arith, refl), root_in)

-- and the argument forces x
var_x : IsVarForced sys b (In 3) child 0
var_x = (
  int 7,
  λ a satisfies.
      let argument : HaveOneValue (term_value_at a root (downlink_arg 0 0) (E.Int (pos 7))) (term_value_at a child (uplink_arg 0) (E.Var 0)) =
      (satisfies (entry child) (inl (inl child_in))).args root 0 call calls_child 0 (E.Int (pos 7)) (E.Var 0) refl refl in
      let left : term_value_at a root (downlink_arg 0 0) (E.Int (pos 7)) ≡ Some (int 7) = simp term_rules in
      let right : term_value_at a child (uplink_arg 0) (E.Var 0) ≡ Some (a.var (0 ∷ []) 0) = simp term_rules in
      sym right ∙ argument.2 ∙ sym argument.1 ∙ left,
)

abbrev AllIn : List Item → Type 0
AllIn items = All (In (length items)) items

abbrev Forces : ℕ → Node → Type 0
Forces k node = All (IsVarForced sys b (In k) node) (transition_of sys node).vars

derived : Derived sys b
derived = record {
  all_in = subst AllIn (sym items_are) (All-cons (In 3) (entry root) (found root 0 in_go ∷ entry child ∷ []) (inl (inl (inl root_in)))
      (All-cons (In 3) (found root 0 in_go) (entry child ∷ []) (inl (inl token_in)) (All-cons (In 3) (entry child) [] (inl (inl child_in)) (All-nil (In 3)))));
  forced = subst (λ items. All (Forces (length items)) b.nodes) (sym items_are)
      (All-cons (Forces 3) root (child ∷ []) (All-cons (IsVarForced sys b (In 3) root) 0 [] (var_n (In 3) (inl (inl (inl root_in)))) (All-nil (IsVarForced sys b (In 3) root)))
      (All-cons (Forces 3) child [] (All-cons (IsVarForced sys b (In 3) child) 0 [] var_x (All-nil (IsVarForced sys b (In 3) child))) (All-nil (Forces 3))));
}
