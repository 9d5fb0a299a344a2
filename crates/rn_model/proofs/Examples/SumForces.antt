-- A sum's value comes in once its variable is forced, and then forces the other side of an equality.
-- place p: int = 5; in p: x; y = x + 1; out q: y;
use Rattle.std.proofs.Common.{◌≡◌, ℕ, pos, [], ◌∷◌, length, refl, sym, ◌∙◌, subst, inl, inr, arith}
use Rattle.std.specs.Prelude.{Some, Contains, All}
use Rattle.std.proofs.lemmas.List.Elements.{All-nil, All-cons}
use Rattle.rn_value.specs.declared.value.InstRef.TheVariants.{Old}
use Rattle.rn_value.specs.declared.value.Kind.TheVariants as Kind
use Rattle.rn_model.specs.declared.expr.Expr.{Expr}
use Rattle.rn_model.specs.declared.expr.Expr.TheVariants as E
use Rattle.rn_model.specs.declared.expr.OpKind.TheVariants.{Add}
use Rattle.rn_model.specs.declared.system.System.{System}
use Rattle.rn_model.specs.declared.system.NetArc.{NetArc}
use Rattle.rn_model.specs.declared.system.ArcKind.TheVariants.{Input, Output}
use Rattle.rn_model.specs.declared.binding.Node.{Node}
use Rattle.rn_model.specs.declared.binding.Binding.{Binding}
use Rattle.rn_model.specs.Lists.{HaveOneValue}
use Rattle.rn_model.specs.Systems.{empty_transition, transition_of, vars_in}
use Rattle.rn_model.specs.Evaluation.{worth}
use Rattle.rn_model.specs.Bindings.{env_of}
use Rattle.rn_model.specs.Derivation.{Item, entry, found, computed, Hole, left, right, arc, items_of, InBy, Derived, IsVarForced, term_value_at}
use Rattle.rn_model.proofs.Examples.ExampleSystems.{int, arc_of, place_of, one_net, int_var}
use Rattle.rn_model.proofs.EvaluationLemmas.{worth_rules}
use Rattle.rn_model.proofs.DerivationLemmas.{term_rules, hole_rules, var_rules}

abbrev sum : Expr
sum = E.Op Add (E.Var 0) (E.Int (pos 1))

abbrev in_p : NetArc
in_p = arc_of Input 0 (E.Var 0)

abbrev sys : System
sys = one_net (int_var ∷ int_var ∷ []) (place_of Kind.Int (int 5 ∷ []) ∷ place_of Kind.Int [] ∷ [])
    (record empty_transition { vars = 0 ∷ 1 ∷ []; equalities = (E.Var 1, sum) ∷ []; arcs = in_p ∷ arc_of Output 1 (E.Var 1) ∷ [] })

abbrev n : Node
n = record { path = []; inst = Old 1; net = 0; transition = 0; values = int 5 ∷ int 6 ∷ [] }

abbrev b : Binding
b = record { nodes = n ∷ [] }

abbrev hole : Hole
hole = record { way = []; form = sum }

items_are : items_of sys b ≡ entry n ∷ found n 0 in_p ∷ computed n (right 0) hole ∷ []
items_are = simp hole_rules

abbrev In : ℕ → Item → Type 0
In = InBy sys b

start_in : In 0 (entry n)
start_in = (n, (0, omega arith, refl), refl, refl)

token_in : In 1 (found n 0 in_p)
token_in = inr (subst (λ items. Contains items (found n 0 in_p)) (sym items_are) (1, omega arith, refl), start_in)

var_x : (In : Item → Type 0) → In (found n 0 in_p) → IsVarForced sys b In n 0
var_x In there = (
  int 5,
  λ a satisfies.
      let token : HaveOneValue (term_value_at a n (arc 0) (E.Var 0)) (worth (E.Var 0) (env_of sys n)) = satisfies (found n 0 in_p) there in
      let left_is : term_value_at a n (arc 0) (E.Var 0) ≡ Some (a.var [] 0) = simp term_rules in
      let right_is : worth (E.Var 0) (env_of sys n) ≡ Some (int 5) = simp worth_rules in
      sym left_is ∙ token.1 ∙ sym token.2 ∙ right_is,
)

its_variables : vars_in sum ≡ 0 ∷ []
its_variables = simp var_rules

sum_in : In 2 (computed n (right 0) hole)
sum_in = inr (
  subst (λ items. Contains items (computed n (right 0) hole)) (sym items_are) (2, omega arith, refl),
  (
    inl start_in,
    subst (All (IsVarForced sys b (In 1) n)) (sym its_variables) (All-cons (IsVarForced sys b (In 1) n) 0 [] (var_x (In 1) token_in) (All-nil (IsVarForced sys b (In 1) n))),
  ),
)

var_y : IsVarForced sys b (In 3) n 1
var_y = (
  int 6,
  λ a satisfies.
      let equality : HaveOneValue (term_value_at a n (left 0) (E.Var 1)) (term_value_at a n (right 0) sum) = (satisfies (entry n) (inl (inl (inl start_in)))).equalities 0 (E.Var 1, sum) refl in
      let left_is : term_value_at a n (left 0) (E.Var 1) ≡ Some (a.var [] 1) = simp term_rules in
      let right_is : term_value_at a n (right 0) sum ≡ Some (a.hole [] (right 0) []) = simp term_rules in
      let value : worth sum (env_of sys n) ≡ Some (a.hole [] (right 0) []) = satisfies (computed n (right 0) hole) (inl sum_in) in
      let six : worth sum (env_of sys n) ≡ Some (int 6) = simp worth_rules in
      sym left_is ∙ equality.1 ∙ sym equality.2 ∙ right_is ∙ sym value ∙ six,
)

abbrev Forces : ℕ → Node → Type 0
Forces k node = All (IsVarForced sys b (In k) node) (transition_of sys node).vars

derived : Derived sys b
derived = record {
  all_in = subst (λ items. All (In (length items)) items) (sym items_are) (All-cons (In 3) (entry n) (found n 0 in_p ∷ computed n (right 0) hole ∷ []) (inl (inl (inl start_in)))
      (All-cons (In 3) (found n 0 in_p) (computed n (right 0) hole ∷ []) (inl (inl token_in)) (All-cons (In 3) (computed n (right 0) hole) [] (inl sum_in) (All-nil (In 3)))));
  forced = subst (λ items. All (Forces (length items)) b.nodes) (sym items_are) (All-cons (Forces 3) n []
      (All-cons (IsVarForced sys b (In 3) n) 0 (1 ∷ []) (var_x (In 3) (inl (inl token_in))) (All-cons (IsVarForced sys b (In 3) n) 1 [] var_y (All-nil (IsVarForced sys b (In 3) n)))) (All-nil (Forces 3)));
}
