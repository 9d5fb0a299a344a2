-- Equalities are solved, and aren't assignments: what they force.
use Rattle.std.proofs.Common.{◌≡◌, ℕ, pos, List, [], ◌∷◌, length, refl, sym, ap, ◌∙◌, subst, inl, arith}
use Rattle.std.specs.Prelude.{Option, Some, None, All, option_and_then}
use Rattle.std.proofs.lemmas.List.Elements.{All-nil, All-cons}
use Rattle.std.proofs.lemmas.Option.{same_Some}
use Rattle.rn_value.proofs.Variants.{same_parts_of_lists}
use Rattle.rn_value.specs.declared.value.InstRef.TheVariants.{Old}
use Rattle.rn_value.specs.declared.value.Kind.TheVariants as Kind
use Rattle.rn_value.specs.declared.value.Value.{Value, out-Value, roll-Value, roll-out-Value}
use Rattle.rn_value.specs.declared.value.Value.TheVariants as Value
use Rattle.rn_value.specs.declared.value.Value.TheOpen as V
use Rattle.rn_model.specs.declared.expr.Expr.{Expr}
use Rattle.rn_model.specs.declared.expr.Expr.TheVariants as E
use Rattle.rn_model.specs.declared.system.System.{System}
use Rattle.rn_model.specs.declared.binding.Node.{Node}
use Rattle.rn_model.specs.declared.binding.Binding.{Binding}
use Rattle.rn_model.specs.Lists.{HaveOneValue}
use Rattle.rn_model.specs.Systems.{empty_transition, transition_of}
use Rattle.rn_model.specs.Evaluation.{list_of, list_step, list_onto}
use Rattle.rn_model.specs.Derivation.{Assignment, Item, entry, left, right, items_of, InBy, Derived, IsVarForced, Satisfies, term_value_at}
use Rattle.rn_model.proofs.Examples.ExampleSystems.{int, one_net, int_var}
use Rattle.rn_model.proofs.DerivationLemmas.{term_rules, hole_rules}

list_is : (v : Value) (vs : List Value) (x : V.Value-F Value) → out-Value v ≡ x → list_step x ≡ Some vs → v ≡ Value.List vs
list_is v vs (V.List ws) is e =
    let same : ws ≡ vs = cc in
    sym (roll-out-Value v) ∙ ap roll-Value (is ∙ ap V.List same) ∙ Value.rolls-List vs
list_is v vs (V.Int n) is e = absurd (let no : ⊥ = cc in no)
list_is v vs (V.Text s) is e = absurd (let no : ⊥ = cc in no)
list_is v vs (V.Tuple ws) is e = absurd (let no : ⊥ = cc in no)
list_is v vs (V.Inst i) is e = absurd (let no : ⊥ = cc in no)

-- {1,2,3} = {h:l};
abbrev long : Expr
long = E.List (E.Int (pos 1) ∷ E.Int (pos 2) ∷ E.Int (pos 3) ∷ [])

abbrev head_and_tail : Expr
head_and_tail = E.Cons (E.Var 0 ∷ []) (E.Var 1)

abbrev sys : System
sys = one_net (int_var ∷ record int_var { kind = Kind.List Kind.Int } ∷ []) [] (record empty_transition { vars = 0 ∷ 1 ∷ []; equalities = (long, head_and_tail) ∷ [] })

abbrev n : Node
n = record { path = []; inst = Old 1; net = 0; transition = 0; values = int 1 ∷ Value.List (int 2 ∷ int 3 ∷ []) ∷ [] }

abbrev b : Binding
b = record { nodes = n ∷ [] }

items_are : items_of sys b ≡ entry n ∷ []
items_are = simp hole_rules

abbrev In : ℕ → Item → Type 0
In = InBy sys b

start_in : In 0 (entry n)
start_in = (n, (0, omega arith, refl), refl, refl)

-- what each assignment that satisfies the equality gives h and l
abbrev Solves : Assignment → Type 0
Solves a = (a.var [] 0 ≡ int 1) × (a.var [] 1 ≡ Value.List (int 2 ∷ int 3 ∷ []))

tail_of : (h l : Value) (read : Option (List Value)) → list_of l ≡ read → option_and_then (list_onto (h ∷ [])) (Some l) ≡ Some (Value.List (int 1 ∷ int 2 ∷ int 3 ∷ [])) → (h ≡ int 1) × (l ≡ Value.List (int 2 ∷ int 3 ∷ []))
tail_of h l None is e = let none : None ≡ Some (Value.List (int 1 ∷ int 2 ∷ int 3 ∷ [])) = rw is at e in absurd (let no : ⊥ = cc in no)
tail_of h l (Some vs) is e =
    let joined : Some (Value.List (h ∷ vs)) ≡ Some (Value.List (int 1 ∷ int 2 ∷ int 3 ∷ [])) = rw is at e in
    let lists : h ∷ vs ≡ int 1 ∷ int 2 ∷ int 3 ∷ [] = same_parts_of_lists (h ∷ vs) (int 1 ∷ int 2 ∷ int 3 ∷ []) (same_Some (Value.List (h ∷ vs)) (Value.List (int 1 ∷ int 2 ∷ int 3 ∷ [])) joined) in
    let head : h ≡ int 1 = cc in
    let rest : vs ≡ int 2 ∷ int 3 ∷ [] = cc in
    (head, list_is l vs (out-Value l) refl is ∙ ap Value.List rest)

solved : (a : Assignment) (k : ℕ) → Satisfies sys b (In k) a → In k (entry n) → Solves a
solved a k satisfies there =
    let sides : HaveOneValue (term_value_at a n (left 0) long) (term_value_at a n (right 0) head_and_tail) = (satisfies (entry n) there).equalities 0 (long, head_and_tail) refl in
    let left_is : term_value_at a n (left 0) long ≡ Some (Value.List (int 1 ∷ int 2 ∷ int 3 ∷ [])) = simp term_rules in
    let right_is : term_value_at a n (right 0) head_and_tail ≡ option_and_then (list_onto (a.var [] 0 ∷ [])) (Some (a.var [] 1)) = simp term_rules in
    tail_of (a.var [] 0) (a.var [] 1) (list_of (a.var [] 1)) refl (sym right_is ∙ sides.2 ∙ sym sides.1 ∙ left_is)

some_forced : (k : ℕ) → In k (entry n) → IsVarForced sys b (In k) n 0 × IsVarForced sys b (In k) n 1
some_forced k there = ((int 1, λ a satisfies. ap Some (solved a k satisfies there).0), (Value.List (int 2 ∷ int 3 ∷ []), λ a satisfies. ap Some (solved a k satisfies there).1))

abbrev Forces : ℕ → Node → Type 0
Forces k node = All (IsVarForced sys b (In k) node) (transition_of sys node).vars

-- h is 1 and l is {2,3}
derived : Derived sys b
derived =
    let start : In 1 (entry n) = inl start_in in
    let forced = some_forced 1 start in
    record {
      all_in = subst (λ items. All (In (length items)) items) (sym items_are) (All-cons (In 1) (entry n) [] start (All-nil (In 1)));
      forced = subst (λ items. All (Forces (length items)) b.nodes) (sym items_are)
          (All-cons (Forces 1) n [] (All-cons (IsVarForced sys b (In 1) n) 0 (1 ∷ []) forced.0 (All-cons (IsVarForced sys b (In 1) n) 1 [] forced.1 (All-nil (IsVarForced sys b (In 1) n)))) (All-nil (Forces 1)));
    }
