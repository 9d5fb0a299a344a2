-- A token forces the variable of its arc: place p: int = 5; in p: x;
use Rattle.std.proofs.Common.{◌≡◌, ℕ, List, [], ◌∷◌, length, refl, sym, ◌∙◌, subst, inl, inr, arith}
use Rattle.std.specs.Prelude.{Some, Contains, All}
use Rattle.std.proofs.lemmas.List.Elements.{All-nil, All-cons}
use Rattle.rn_value.specs.declared.value.InstRef.TheVariants.{Old}
use Rattle.rn_value.specs.declared.value.Kind.TheVariants as Kind
use Rattle.rn_model.specs.declared.expr.Expr.TheVariants as E
use Rattle.rn_model.specs.declared.system.System.{System}
use Rattle.rn_model.specs.declared.system.NetArc.{NetArc}
use Rattle.rn_model.specs.declared.system.ArcKind.TheVariants.{Input}
use Rattle.rn_model.specs.declared.binding.Node.{Node}
use Rattle.rn_model.specs.declared.binding.Binding.{Binding}
use Rattle.rn_model.specs.Lists.{HaveOneValue}
use Rattle.rn_model.specs.Systems.{transition_of}
use Rattle.rn_model.specs.Evaluation.{worth}
use Rattle.rn_model.specs.Bindings.{env_of}
use Rattle.rn_model.specs.Derivation.{Assignment, Item, entry, found, arc, items_of, InBy, Derived, IsVarForced, term_value_at}
use Rattle.rn_model.proofs.Examples.ExampleSystems.{int, arc_of, place_of, only_arcs, one_net, int_var}
use Rattle.rn_model.proofs.EvaluationLemmas.{worth_rules}
use Rattle.rn_model.proofs.DerivationLemmas.{term_rules, hole_rules}

-- place p: int = 5; in p: x;
abbrev taking : System
taking = one_net (int_var ∷ []) (place_of Kind.Int (int 5 ∷ []) ∷ []) (only_arcs (0 ∷ []) (arc_of Input 0 (E.Var 0) ∷ []))

abbrev n : Node
n = record { path = []; inst = Old 1; net = 0; transition = 0; values = int 5 ∷ [] }

abbrev b : Binding
b = record { nodes = n ∷ [] }

abbrev in_p : NetArc
in_p = arc_of Input 0 (E.Var 0)

items_are : items_of taking b ≡ entry n ∷ found n 0 in_p ∷ []
items_are = simp hole_rules

abbrev In : ℕ → Item → Type 0
In = InBy taking b

start_in : In 0 (entry n)
start_in = (n, (0, omega arith, refl), refl, refl)

token_in : In 1 (found n 0 in_p)
token_in = inr (subst (λ items. Contains items (found n 0 in_p)) (sym items_are) (1, omega arith, refl), start_in)

read_x : (a : Assignment) → term_value_at a n (arc 0) (E.Var 0) ≡ Some (a.var [] 0)
read_x a = simp term_rules

worth_x : worth (E.Var 0) (env_of taking n) ≡ Some (int 5)
worth_x = simp worth_rules

-- all that satisfy the token's equation give x the value 5
forced_x : IsVarForced taking b (In 2) n 0
forced_x = (
  int 5,
  λ a satisfies.
      let token : HaveOneValue (term_value_at a n (arc 0) (E.Var 0)) (worth (E.Var 0) (env_of taking n)) = satisfies (found n 0 in_p) (inl token_in) in
      sym (read_x a) ∙ token.1 ∙ sym token.2 ∙ worth_x,
)

abbrev AllIn : List Item → Type 0
AllIn items = All (In (length items)) items

abbrev Forces : ℕ → Node → Type 0
Forces k node = All (IsVarForced taking b (In k) node) (transition_of taking node).vars

derived : Derived taking b
derived = record {
  all_in = subst AllIn (sym items_are) (All-cons (In 2) (entry n) (found n 0 in_p ∷ []) (inl (inl start_in)) (All-cons (In 2) (found n 0 in_p) [] (inl token_in) (All-nil (In 2))));
  forced = subst (λ items. All (Forces (length items)) b.nodes) (sym items_are) (All-cons (Forces 2) n [] (All-cons (IsVarForced taking b (In 2) n) 0 [] forced_x (All-nil (IsVarForced taking b (In 2) n))) (All-nil (Forces 2)));
}
