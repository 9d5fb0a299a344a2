-- A call whose target a token gives is derived, though its argument alone gives none.
-- channel h(net);
-- net main { var x: net; place p: net; trans s { in p: x; x:h(x); } trans u { :h(this); } }
use Rattle.std.proofs.Common.{◌≡◌, ℕ, List, [], ◌∷◌, length, refl, sym, ◌∙◌, subst, inl, inr}
use Rattle.std.proofs.Common.{arith}
use Rattle.std.specs.Prelude.{Some, All, Contains, codes}
use Rattle.std.proofs.lemmas.List.Elements.{All-nil, All-cons}
use Rattle.rn_value.specs.declared.value.InstRef.TheVariants.{Old}
use Rattle.rn_value.specs.declared.value.Kind.TheVariants as Kind
use Rattle.rn_value.specs.declared.value.Value.TheVariants as Value
use Rattle.rn_model.specs.declared.expr.Expr.TheVariants as E
use Rattle.rn_model.specs.declared.system.System.{System}
use Rattle.rn_model.specs.declared.system.ArcKind.TheVariants.{Input}
use Rattle.rn_model.specs.declared.system.Downlink.{Downlink}
use Rattle.rn_model.specs.declared.system.NetArc.{NetArc}
use Rattle.rn_model.specs.declared.system.Transition.{Transition}
use Rattle.rn_model.specs.declared.binding.Node.{Node}
use Rattle.rn_model.specs.declared.binding.Binding.{Binding}
use Rattle.rn_model.specs.Systems.{empty_transition, transition_of}
use Rattle.rn_model.specs.Evaluation.{worth}
use Rattle.rn_model.specs.Bindings.{Calls, env_of}
use Rattle.rn_model.specs.Derivation.{Assignment, Item, entry, found, arc, target, items_of, InBy}
use Rattle.rn_model.specs.Derivation.{Satisfies, Derived, Forced, IsVarForced, term_value_at}
use Rattle.rn_model.proofs.DerivationLemmas.{term_rules, hole_rules}
use Rattle.rn_model.proofs.EvaluationLemmas.{worth_rules}
use Rattle.rn_model.proofs.Examples.ExampleSystems.{arc_of, place_of}

abbrev call : Downlink
call = record { target = E.Var 0; channel = 0; args = E.Var 0 ∷ [] }

abbrev in_p : NetArc
in_p = arc_of Input 0 (E.Var 0)

abbrev s : Transition
s = record empty_transition { vars = 0 ∷ []; downlinks = call ∷ []; arcs = in_p ∷ [] }

abbrev u : Transition
u = record empty_transition { uplink = Some (record { channel = 0; args = E.This ∷ [] }) }

abbrev sys : System
sys = record {
  nets =
      record {
        name = codes "main";
        vars = record { name = codes "x"; kind = Kind.Net } ∷ [];
        places = place_of Kind.Net [] ∷ [];
        transitions = s ∷ u ∷ [];
      }
      ∷ [];
  channels = record { name = codes "h"; kinds = Kind.Net ∷ [] } ∷ [];
}

abbrev root : Node
root = record {
  path = [];
  inst = Old 1;
  net = 0;
  transition = 0;
  values = Value.Inst (Old 1) ∷ [];
}

abbrev child : Node
child = record { path = 0 ∷ []; inst = Old 1; net = 0; transition = 1; values = [] }

abbrev b : Binding
b = record { nodes = root ∷ child ∷ [] }

abbrev items : List Item
items = entry root ∷ found root 0 in_p ∷ entry child ∷ []

items_are : items_of sys b ≡ items
items_are = simp hole_rules

abbrev In : ℕ → Item → Type 0
In = InBy sys b

root_in : In 0 (entry root)
root_in = (root, (0, omega arith, refl), refl, refl)

token_in : In 1 (found root 0 in_p)
token_in = inr (
  subst (λ xs. Contains xs (found root 0 in_p)) (sym items_are)
      (1, omega arith, refl),
  root_in,
)

-- the token forces x
x_is : (a : Assignment) (In : Item → Type 0) → In (found root 0 in_p) → Satisfies sys b In a →
    Some (a.var [] 0) ≡ Some (Value.Inst (Old 1))
x_is a In there all =
    let one = all (found root 0 in_p) there in
    let read : term_value_at a root (arc 0) (E.Var 0) ≡ Some (a.var [] 0) = simp term_rules in
    let value : worth (E.Var 0) (env_of sys root) ≡ Some (Value.Inst (Old 1)) = simp worth_rules in
    sym read ∙ one.1 ∙ sym one.2 ∙ value

-- and x the target
target_forced : Forced sys b (In 1) (λ a. term_value_at a root (target 0) (E.Var 0))
target_forced = (
  Value.Inst (Old 1),
  λ a all.
      let read : term_value_at a root (target 0) (E.Var 0) ≡ Some (a.var [] 0) = simp term_rules in
      read ∙ x_is a (In 1) token_in all,
)

calls_child : Calls sys b root 0 call child
calls_child = record {
  caller_there = (0, omega arith, refl);
  node_there = (1, omega arith, refl);
  downlink_there = refl;
  path = refl;
}

child_in : In 2 (entry child)
child_in = inr (
  subst (λ xs. Contains xs (entry child)) (sym items_are) (2, omega arith, refl),
  (root, 0, call, calls_child, inl root_in, target_forced),
)

abbrev Forces : ℕ → Node → Type 0
Forces k node = All (IsVarForced sys b (In k) node) (transition_of sys node).vars

derived : Derived sys b
derived = record {
  all_in = subst (λ xs. All (In (length xs)) xs) (sym items_are)
      (All-cons (In 3) (entry root) (found root 0 in_p ∷ entry child ∷ []) (inl (inl (inl root_in)))
      (All-cons (In 3) (found root 0 in_p) (entry child ∷ []) (inl (inl token_in))
      (All-cons (In 3) (entry child) [] (inl child_in) (All-nil (In 3)))));
  forced = subst (λ xs. All (Forces (length xs)) b.nodes) (sym items_are)
      (All-cons (Forces 3) root (child ∷ [])
      (All-cons (IsVarForced sys b (In 3) root) 0 []
      (Value.Inst (Old 1), λ a all. x_is a (In 3) (inl (inl token_in)) all) (All-nil _))
      (All-cons (Forces 3) child [] (All-nil _) (All-nil (Forces 3))));
}
