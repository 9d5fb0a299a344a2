-- A binding that agrees and isn't derived: 3 = y + 1 agrees with y = 2, and nothing forces y.
use Rattle.std.proofs.Common.{◌≡◌, ℕ, zero, suc, pos, ◌⊎◌, [], ◌∷◌, length, sym, ap, ◌∙◌, subst, inl, inr, arith}
use Rattle.std.specs.Prelude.{Some, None, Contains, All, slice_get}
use Rattle.rn_value.specs.declared.value.InstRef.TheVariants.{Old}
use Rattle.rn_value.specs.declared.value.Value.{Value}
use Rattle.rn_model.specs.declared.expr.Expr.{Expr}
use Rattle.rn_model.specs.declared.expr.Expr.TheVariants as E
use Rattle.rn_model.specs.declared.expr.OpKind.TheVariants.{Add}
use Rattle.rn_model.specs.declared.system.System.{System}
use Rattle.rn_model.specs.declared.system.Downlink.{Downlink}
use Rattle.rn_model.specs.declared.system.Creation.{Creation}
use Rattle.rn_model.specs.declared.binding.Node.{Node}
use Rattle.rn_model.specs.declared.binding.Binding.{Binding}
use Rattle.rn_model.specs.Lists.{HaveOneValue}
use Rattle.rn_model.specs.Systems.{empty_transition, transition_of, vars_in}
use Rattle.rn_model.specs.Evaluation.{worth, int_of}
use Rattle.rn_model.specs.Bindings.{Calls, env_of}
use Rattle.rn_model.specs.Derivation.{Assignment, Item, entry, computed, Hole, right, left, items_of, InBy, Derived, IsVarForced, Satisfies, Holds, EntryHolds, MayEnter, term_value_at}
use Rattle.rn_model.proofs.Examples.ExampleSystems.{int, one_net, int_var}
use Rattle.rn_model.proofs.EvaluationLemmas.{worth_rules, int_of-Int}
use Rattle.rn_model.proofs.DerivationLemmas.{term_rules, hole_rules, var_rules}
use Rattle.rn_model.proofs.EnablingLemmas.{the_one}

abbrev sum_of_y : Expr
sum_of_y = E.Op Add (E.Var 0) (E.Int (pos 1))

abbrev sides : Expr × Expr
sides = (E.Int (pos 3), sum_of_y)

abbrev sys : System
sys = one_net (int_var ∷ []) [] (record empty_transition { vars = 0 ∷ []; equalities = sides ∷ [] })

abbrev n : Node
n = record { path = []; inst = Old 1; net = 0; transition = 0; values = int 2 ∷ [] }

abbrev b : Binding
b = record { nodes = n ∷ [] }

-- both sides have the value 3
both_three : HaveOneValue (worth (E.Int (pos 3)) (env_of sys n)) (worth sum_of_y (env_of sys n))
both_three = (int 3, simp worth_rules, simp worth_rules)

abbrev hole : Hole
hole = record { way = []; form = sum_of_y }

items_are : items_of sys b ≡ entry n ∷ computed n (right 0) hole ∷ []
items_are = simp hole_rules

-- any value for y, and 3 for its sum
abbrev with_y : Value → Assignment
with_y v = record { var = λ path x. v; hole = λ path site way. int 3 }

no_creation : (j : ℕ) (c : Creation) (P : Type 0) → None ≡ Some c → P
no_creation j c P e = absurd (let no : ⊥ = cc in no)

no_calls : (caller : Node) (i : ℕ) (d : Downlink) (node : Node) → Calls sys b caller i d node → ⊥
no_calls caller i d node c =
    let same : n ≡ caller = the_one n caller c.caller_there in
    let here : slice_get (transition_of sys n).downlinks i ≡ Some d = rw (sym same) at c.downlink_there in
    let no : ⊥ = cc in no

equality_holds : (v : Value) (k : ℕ) (e : Expr × Expr) → slice_get (sides ∷ []) k ≡ Some e → HaveOneValue (term_value_at (with_y v) n (left k) e.0) (term_value_at (with_y v) n (right k) e.1)
equality_holds v zero e h =
    let same : sides ≡ e = cc in
    subst (λ s. HaveOneValue (term_value_at (with_y v) n (left 0) s.0) (term_value_at (with_y v) n (right 0) s.1)) same (int 3, simp term_rules, simp term_rules)
equality_holds v (suc k) e h = absurd (let no : ⊥ = cc in no)

-- the entry's equations hold whatever y is
entry_holds : (v : Value) → EntryHolds sys b (with_y v) n
entry_holds v = record {
  equalities = equality_holds v;
  creations = λ j c h. absurd (let no : ⊥ = cc in no);
  args = λ caller i d c. absurd (no_calls caller i d n c);
}

ints_differ : int 0 ≡ int 1 → ⊥
ints_differ e =
    let same : Some (pos 0) ≡ Some (pos 1) = sym (int_of-Int (pos 0)) ∙ ap int_of e ∙ int_of-Int (pos 1) in
    let no : ⊥ = cc in no

abbrev OnlyEntry : (Item → Type 0) → Type 0
OnlyEntry In = (item : Item) → In item → entry n ≡ item

-- while only the entry is in, y isn't forced
not_forced : (In : Item → Type 0) → OnlyEntry In → ¬ IsVarForced sys b In n 0
not_forced In only (v, all) =
    let satisfied : (w : Value) → Satisfies sys b In (with_y w) = λ w item h. subst (Holds sys b (with_y w)) (only item h) (entry_holds w) in
    let zero_is : Some (int 0) ≡ Some v = all (with_y (int 0)) (satisfied (int 0)) in
    let one_is : Some (int 1) ≡ Some v = all (with_y (int 1)) (satisfied (int 1)) in
    let same : int 0 ≡ int 1 = cc in
    ints_differ same

abbrev hole_item : Item
hole_item = computed n (right 0) hole

the_two : (item : Item) → Contains (entry n ∷ hole_item ∷ []) item → (entry n ≡ item) ⊎ (hole_item ≡ item)
the_two item (zero, h, e) = inl e
the_two item (suc zero, h, e) = inr e
the_two item (suc (suc k), h, e) = absurd (let no : ⊥ = omega (arith, h) in no)

its_variable : vars_in sum_of_y ≡ 0 ∷ []
its_variable = simp var_rules

hole_waits : (In : Item → Type 0) → OnlyEntry In → MayEnter sys b In hole_item → ⊥
hole_waits In only may =
    let vars : All (IsVarForced sys b In n) (0 ∷ []) = subst (All (IsVarForced sys b In n)) its_variable may.1 in
    not_forced In only (vars 0 0 (omega arith))

enters : (In : Item → Type 0) → OnlyEntry In → (item : Item) → (entry n ≡ item) ⊎ (hole_item ≡ item) → MayEnter sys b In item → entry n ≡ item
enters In only item (inl e) may = e
enters In only item (inr e) may = absurd (hole_waits In only (subst (MayEnter sys b In) (sym e) may))

-- so nothing but the entry ever comes in
only_entry : (k : ℕ) → OnlyEntry (InBy sys b k)
only_entry zero item (node, there, path, e) = ap entry (the_one n node there) ∙ sym e
only_entry (suc k) item (inl before) = only_entry k item before
only_entry (suc k) item (inr (there, may)) = enters (InBy sys b k) (only_entry k) item (the_two item (subst (λ items. Contains items item) items_are there)) may

not_derived : ¬ Derived sys b
not_derived d = not_forced (InBy sys b (length (items_of sys b))) (only_entry (length (items_of sys b))) (d.forced 0 n (omega arith) 0 0 (omega arith))
