-- A call can't find its own target, also where the binding agrees.
-- channel h(net); net main { var x: net; trans s { x:h(x); } trans u { :h(this); } }
use Rattle.std.proofs.Common.{◌≡◌, ℕ, zero, suc, pos, ◌⊎◌, List, [], ◌∷◌, ◌++◌, length, sym, ap, ◌∙◌, subst, inl, inr, arith}
use Rattle.std.specs.Prelude.{Some, All, Contains, slice_get, codes}
use Rattle.rn_model.proofs.DerivedInstances.{same_entry}
use Rattle.rn_value.specs.declared.value.InstRef.TheVariants.{Old}
use Rattle.rn_value.specs.declared.value.Kind.TheVariants as Kind
use Rattle.rn_value.specs.declared.value.Value.{Value}
use Rattle.rn_model.specs.declared.expr.Expr.TheVariants as E
use Rattle.rn_model.specs.declared.system.System.{System}
use Rattle.rn_model.specs.declared.system.Transition.{Transition}
use Rattle.rn_model.specs.declared.system.Downlink.{Downlink}
use Rattle.rn_model.specs.declared.binding.Node.{Node}
use Rattle.rn_model.specs.declared.binding.Binding.{Binding}
use Rattle.rn_model.specs.Systems.{empty_transition, transition_of}
use Rattle.rn_model.specs.Evaluation.{int_of}
use Rattle.rn_model.specs.Bindings.{Calls}
use Rattle.rn_model.specs.Agreement.{CallAgrees}
use Rattle.rn_model.specs.Derivation.{Assignment, Item, entry, target, items_of, InBy, Derived, Satisfies, Holds, EntryHolds, MayEnter, Forced, term_value_at}
use Rattle.rn_model.proofs.Examples.ExampleSystems.{int}
use Rattle.rn_model.proofs.EvaluationLemmas.{worth_rules, int_of-Int}
use Rattle.rn_model.proofs.DerivationLemmas.{term_rules, hole_rules}

abbrev call : Downlink
call = record { target = E.Var 0; channel = 0; args = E.Var 0 ∷ [] }

abbrev s : Transition
s = record empty_transition { vars = 0 ∷ []; downlinks = call ∷ [] }

abbrev u : Transition
u = record empty_transition { uplink = Some (record { channel = 0; args = E.This ∷ [] }) }

abbrev sys : System
sys = record {
  nets = record { name = codes "main"; vars = record { name = codes "x"; kind = Kind.Net } ∷ []; places = []; transitions = s ∷ u ∷ [] } ∷ [];
  channels = record { name = codes "h"; kinds = Kind.Net ∷ [] } ∷ [];
}

abbrev root : Node
root = record { path = []; inst = Old 1; net = 0; transition = 0; values = Value.Inst (Old 1) ∷ [] }

abbrev child : Node
child = record { path = 0 ∷ []; inst = Old 1; net = 0; transition = 1; values = [] }

abbrev b : Binding
b = record { nodes = root ∷ child ∷ [] }

-- the call agrees: its target is the child's instance, and so is the child's argument
call_agrees : CallAgrees sys root call child
call_agrees = record { target = simp worth_rules; args = ((Value.Inst (Old 1), simp worth_rules, simp worth_rules), tt) }

items_are : items_of sys b ≡ entry root ∷ entry child ∷ []
items_are = simp hole_rules

of_two : (x : Node) → Contains b.nodes x → (root ≡ x) ⊎ (child ≡ x)
of_two x (zero, h, e) = inl e
of_two x (suc zero, h, e) = inr e
of_two x (suc (suc k), h, e) = absurd (let no : ⊥ = omega (arith, h) in no)

not_empty : (p : List ℕ) (i : ℕ) → p ++ i ∷ [] ≡ [] → ⊥
not_empty [] i e = let no : ⊥ = cc in no
not_empty (j ∷ p) i e = let no : ⊥ = cc in no

-- nothing calls the start
start_path : (caller : Node) (i : ℕ) (d : Downlink) → Calls sys b caller i d root → ⊥
start_path caller i d c = not_empty caller.path i (sym c.path)

-- any value for x
abbrev with_x : Value → Assignment
with_x v = record { var = λ path x. v; hole = λ path site way. v }

-- the start's entry brings no equation
entry_holds : (v : Value) → EntryHolds sys b (with_x v) root
entry_holds v = record {
  equalities = λ k e h. absurd (let no : ⊥ = cc in no);
  creations = λ j c h. absurd (let no : ⊥ = cc in no);
  args = λ caller i d c. absurd (start_path caller i d c);
}

ints_differ : int 0 ≡ int 1 → ⊥
ints_differ e =
    let same : Some (pos 0) ≡ Some (pos 1) = sym (int_of-Int (pos 0)) ∙ ap int_of e ∙ int_of-Int (pos 1) in
    let no : ⊥ = cc in no

abbrev OnlyStart : (Item → Type 0) → Type 0
OnlyStart In = (item : Item) → In item → entry root ≡ item

-- while only the start is in, the target isn't forced
not_forced : (In : Item → Type 0) → OnlyStart In → ¬ Forced sys b In (λ a. term_value_at a root (target 0) (E.Var 0))
not_forced In only (v, all) =
    let satisfied : (w : Value) → Satisfies sys b In (with_x w) = λ w item h. subst (Holds sys b (with_x w)) (only item h) (entry_holds w) in
    let read : (w : Value) → term_value_at (with_x w) root (target 0) (E.Var 0) ≡ Some w = λ w. simp term_rules in
    let zero_is : Some (int 0) ≡ Some v = sym (read (int 0)) ∙ all (with_x (int 0)) (satisfied (int 0)) in
    let one_is : Some (int 1) ≡ Some v = sym (read (int 1)) ∙ all (with_x (int 1)) (satisfied (int 1)) in
    let same : int 0 ≡ int 1 = cc in
    ints_differ same

abbrev HasDownlink : ℕ → Downlink → Node → Type 0
HasDownlink i d caller = slice_get (transition_of sys caller).downlinks i ≡ Some d

by_place : (i : ℕ) (d : Downlink) (In : Item → Type 0) → OnlyStart In → HasDownlink i d root → ¬ Forced sys b In (λ a. term_value_at a root (target i) d.target)
by_place zero d In only here forced =
    let same : call ≡ d = cc in
    not_forced In only (subst (λ x. Forced sys b In (λ a. term_value_at a root (target 0) x.target)) (sym same) forced)
by_place (suc i) d In only here forced = let no : ⊥ = cc in no

-- so the child never comes in: its caller would be the start
child_waits : (In : Item → Type 0) → OnlyStart In → MayEnter sys b In (entry child) → ⊥
child_waits In only (caller, i, d, c, caller_in, forced) =
    let is : root ≡ caller = same_entry root caller (only (entry caller) caller_in) in
    let here : HasDownlink i d root = subst (HasDownlink i d) (sym is) c.downlink_there in
    by_place i d In only here (subst (λ x. Forced sys b In (λ a. term_value_at a x (target i) d.target)) (sym is) forced)

abbrev IsOneOfTwo : Item → Type 0
IsOneOfTwo item = (entry root ≡ item) ⊎ (entry child ≡ item)

the_two : (item : Item) → Contains (entry root ∷ entry child ∷ []) item → IsOneOfTwo item
the_two item (zero, h, e) = inl e
the_two item (suc zero, h, e) = inr e
the_two item (suc (suc k), h, e) = absurd (let no : ⊥ = omega (arith, h) in no)

enters : (In : Item → Type 0) → OnlyStart In → (item : Item) → IsOneOfTwo item → MayEnter sys b In item → entry root ≡ item
enters In only item (inl e) may = e
enters In only item (inr e) may = absurd (child_waits In only (subst (MayEnter sys b In) (sym e) may))

start_of : (x : Node) → (root ≡ x) ⊎ (child ≡ x) → x.path ≡ [] → root ≡ x
start_of x (inl e) path = e
start_of x (inr e) path = let named : child.path ≡ [] = ap (λ y. y.path) e ∙ path in absurd (let no : ⊥ = cc in no)

only_start : (k : ℕ) → OnlyStart (InBy sys b k)
only_start zero item (node, there, path, e) = ap entry (start_of node (of_two node there) path) ∙ sym e
only_start (suc k) item (inl before) = only_start k item before
only_start (suc k) item (inr (there, may)) = enters (InBy sys b k) (only_start k) item (the_two item (subst (λ items. Contains items item) items_are there)) may

not_derived : ¬ Derived sys b
not_derived d =
    let in_at_last : InBy sys b (length (items_of sys b)) (entry child) = subst (λ items. All (InBy sys b (length (items_of sys b))) items) items_are d.all_in 1 (entry child) (omega arith) in
    let same : entry root ≡ entry child = only_start (length (items_of sys b)) (entry child) in_at_last in
    let paths : root.path ≡ child.path = ap (λ x. x.path) (same_entry root child same) in
    let no : ⊥ = cc in no
