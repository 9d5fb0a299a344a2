-- A token finds the sum of an arc, and not its variable: the items that come in are closed without
-- the sum's value, and so the binding isn't derived.
-- net main { var x: int; place p: int = 6; trans t { in p: x + 1; } }
use Rattle.std.proofs.Common.{◌≡◌, ℕ, zero, suc, pos, ◌<◌, ◌≤◌, List, [], ◌∷◌, length, take, refl}
use Rattle.std.proofs.Common.{sym, ap, ◌∙◌, subst, arith}
use Rattle.std.specs.Prelude.{Some, All, Contains, slice_get}
use Rattle.std.proofs.lemmas.List.Elements.{All-nil, All-cons}
use Rattle.rn_value.specs.declared.value.InstRef.TheVariants.{Old}
use Rattle.rn_value.specs.declared.value.Kind.TheVariants as Kind
use Rattle.rn_value.specs.declared.value.Value.{Value}
use Rattle.rn_model.specs.declared.expr.Expr.{Expr}
use Rattle.rn_model.specs.declared.expr.Expr.TheVariants as E
use Rattle.rn_model.specs.declared.expr.OpKind.TheVariants.{Add}
use Rattle.rn_model.specs.declared.system.System.{System}
use Rattle.rn_model.specs.declared.system.ArcKind.TheVariants.{Input}
use Rattle.rn_model.specs.declared.system.Downlink.{Downlink}
use Rattle.rn_model.specs.declared.system.NetArc.{NetArc}
use Rattle.rn_model.specs.declared.binding.Node.{Node}
use Rattle.rn_model.specs.declared.binding.Binding.{Binding}
use Rattle.rn_model.specs.Systems.{transition_of, vars_in}
use Rattle.rn_model.specs.Evaluation.{worth, int_of}
use Rattle.rn_model.specs.Bindings.{Shape, IsNodeOf, IsOfCreation, IsCalled, env_of}
use Rattle.rn_model.specs.Derivation.{Assignment, Item, entry, found, computed, Hole, arc, items_of}
use Rattle.rn_model.specs.Derivation.{Satisfies, Holds, EntryHolds, MayEnter, IsVarForced, Derived}
use Rattle.rn_model.specs.Derivation.{term_value_at}
use Rattle.rn_model.specs.RoundLaws.{ComeIn, IsClosed}
use Rattle.rn_model.proofs.DerivationLemmas.{term_rules, hole_rules, var_rules}
use Rattle.rn_model.proofs.EnablingLemmas.{the_one}
use Rattle.rn_model.proofs.EvaluationLemmas.{worth_rules, int_of-Int}
use Rattle.rn_model.proofs.Examples.ExampleSystems.{int, arc_of, place_of, only_arcs, one_net, int_var}
use Rattle.rn_model.proofs.Rounds.{closed_decide}

abbrev sum : Expr
sum = E.Op Add (E.Var 0) (E.Int (pos 1))

abbrev in_p : NetArc
in_p = arc_of Input 0 sum

abbrev sys : System
sys = one_net (int_var ∷ []) (place_of Kind.Int (int 6 ∷ []) ∷ []) (only_arcs (0 ∷ []) (in_p ∷ []))

abbrev n : Node
n = record { path = []; inst = Old 1; net = 0; transition = 0; values = int 5 ∷ [] }

abbrev b : Binding
b = record { nodes = n ∷ [] }

abbrev hole : Hole
hole = record { way = []; form = sum }

items_are : items_of sys b ≡ entry n ∷ found n 0 in_p ∷ computed n (arc 0) hole ∷ []
items_are = simp hole_rules

-- the entry comes in, and then what the arc finds
abbrev items : List Item
items = entry n ∷ found n 0 in_p ∷ []

enters : (k : ℕ) (item : Item) → 0 < k → slice_get items k ≡ Some item →
    MayEnter sys b (Contains (take k items)) item
enters zero item low e = absurd (let no : ⊥ = omega (arith, low) in no)
enters (suc zero) item low e =
    let same : found n 0 in_p ≡ item = cc in
    subst (MayEnter sys b (Contains (entry n ∷ []))) same (0, omega arith, refl)
enters (suc (suc k)) item low e = absurd (let no : ⊥ = cc in no)

-- an entry is none of what arcs find
differ : ¬ (entry n ≡ found n 0 in_p)
differ e = let no : ⊥ = cc in no

once : (j k : ℕ) (item : Item) → slice_get items j ≡ Some item → slice_get items k ≡ Some item →
    j ≡ k
once zero zero item e f = refl
once (suc zero) (suc zero) item e f = refl
once zero (suc zero) item e f =
    let same : entry n ≡ found n 0 in_p = cc in absurd (differ same)
once (suc zero) zero item e f =
    let same : entry n ≡ found n 0 in_p = cc in absurd (differ same)
once (suc (suc j)) k item e f = absurd (let no : ⊥ = cc in no)
once zero (suc (suc k)) item e f = absurd (let no : ⊥ = cc in no)
once (suc zero) (suc (suc k)) item e f = absurd (let no : ⊥ = cc in no)

come_in : ComeIn sys b items
come_in = record {
  start = (n, (0, omega arith, refl), refl, refl);
  each = λ k item e. subst (λ xs. Contains xs item) (sym items_are) (of_all k item e);
  enter = enters;
  once = once;
}
  where
    of_all : (k : ℕ) (item : Item) → slice_get items k ≡ Some item →
        Contains (entry n ∷ found n 0 in_p ∷ computed n (arc 0) hole ∷ []) item
    of_all zero item e = let same : entry n ≡ item = cc in (0, omega arith, same)
    of_all (suc zero) item e = let same : found n 0 in_p ≡ item = cc in (1, omega arith, same)
    of_all (suc (suc k)) item e = absurd (let no : ⊥ = cc in no)

-- in the other order they don't
not_reversed : ¬ ComeIn sys b (found n 0 in_p ∷ entry n ∷ [])
not_reversed come = let first = come.start.3 in let no : ⊥ = cc in no

-- nor does the sum's value come in after them
no_calls : (caller : Node) (i : ℕ) (d : Downlink) → Contains b.nodes caller →
    ¬ (slice_get (transition_of sys caller).downlinks i ≡ Some d)
no_calls caller i d there e =
    let same : n ≡ caller = the_one n caller there in
    let here : slice_get (transition_of sys n).downlinks i ≡ Some d = rw (sym same) at e in
    let no : ⊥ = cc in no

-- any value for x, and 6 for its sum
abbrev with_x : Value → Assignment
with_x v = record { var = λ path x. v; hole = λ path site way. int 6 }

entry_holds : (v : Value) → EntryHolds sys b (with_x v) n
entry_holds v = record {
  equalities = λ k e h. absurd (let no : ⊥ = cc in no);
  creations = λ j c h. absurd (let no : ⊥ = cc in no);
  args = λ caller i d c. absurd (no_calls caller i d c.caller_there c.downlink_there);
}

found_holds : (v : Value) → Holds sys b (with_x v) (found n 0 in_p)
found_holds v =
    let read : term_value_at (with_x v) n (arc 0) sum ≡ Some (int 6) = simp term_rules in
    let value : worth sum (env_of sys n) ≡ Some (int 6) = simp worth_rules in
    (int 6, read, value)

satisfied : (v : Value) → Satisfies sys b (Contains items) (with_x v)
satisfied v item (zero, h, e) = subst (Holds sys b (with_x v)) e (entry_holds v)
satisfied v item (suc zero, h, e) = subst (Holds sys b (with_x v)) e (found_holds v)
satisfied v item (suc (suc k), h, e) = absurd (let no : ⊥ = omega (arith, h) in no)

ints_differ : ¬ (int 0 ≡ int 1)
ints_differ e =
    let same : Some (pos 0) ≡ Some (pos 1) =
    sym (int_of-Int (pos 0)) ∙ ap int_of e ∙ int_of-Int (pos 1) in
    let no : ⊥ = cc in no

not_forced : ¬ IsVarForced sys b (Contains items) n 0
not_forced (v, all) =
    let zero_is = all (with_x (int 0)) (satisfied (int 0)) in
    let one_is = all (with_x (int 1)) (satisfied (int 1)) in
    let same : int 0 ≡ int 1 = cc in
    ints_differ same

sum_waits : ¬ MayEnter sys b (Contains items) (computed n (arc 0) hole)
sum_waits may =
    let its_variable : vars_in sum ≡ 0 ∷ [] = simp var_rules in
    let vars = subst (All (IsVarForced sys b (Contains items) n)) its_variable may.1 in
    not_forced (vars 0 0 (omega arith))

closed : IsClosed sys b items
closed item there may = by_index (subst (λ xs. Contains xs item) items_are there)
  where
    by_index :
        Contains (entry n ∷ found n 0 in_p ∷ computed n (arc 0) hole ∷ []) item →
        Contains items item
    by_index (zero, h, e) = (0, omega arith, e)
    by_index (suc zero, h, e) = (1, omega arith, e)
    by_index (suc (suc zero), h, e) =
        absurd (sum_waits (subst (MayEnter sys b (Contains items)) (sym e) may))
    by_index (suc (suc (suc k)), h, e) = absurd (let no : ⊥ = omega (arith, h) in no)

abbrev IsCalledUnlessStart : Node → Type 0
IsCalledUnlessStart x = ¬ (x.path ≡ []) → IsCalled sys b x

abbrev IsShallow : Node → Type 0
IsShallow x = length x.path ≤ 0

only : (P : Node → Type 0) → P n → All P b.nodes
only P p = All-cons P n [] p (All-nil P)

shape : Shape sys b 0
shape = record {
  ascending = λ k d h. absurd (let no : ⊥ = omega (arith, h) in no);
  start = (n, refl, record { exists = (1, refl); uplink = refl });
  nodes = only (IsNodeOf sys)
      (record { net = omega arith; transition = omega arith; values = refl });
  children = λ caller i d there e. absurd (no_calls caller i d there e);
  called = only IsCalledUnlessStart (λ no. absurd (no refl));
  deep = only IsShallow (omega arith);
  many = omega arith;
  created = only (IsOfCreation sys b) (λ path j e. absurd (let no : ⊥ = cc in no));
}

not_all : ¬ Contains items (computed n (arc 0) hole)
not_all (zero, h, e) = let no : ⊥ = cc in no
not_all (suc zero, h, e) = let no : ⊥ = cc in no
not_all (suc (suc k), h, e) = let no : ⊥ = omega (arith, h) in no

not_derived : ¬ Derived sys b
not_derived derived =
    let all = (closed_decide sys b 0 items shape come_in closed).0 derived in
    not_all (subst (All (Contains items)) items_are all.0 2 (entry n) (omega arith))
