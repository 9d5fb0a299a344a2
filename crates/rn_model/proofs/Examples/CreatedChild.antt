-- A binding of two nodes, the second on an instance that the first makes, is enabled.
-- channel c(); net main { var n: net; trans t { n: new w; n:c(); } } net w { trans u { :c(); } }
use Rattle.std.proofs.Common.{◌≡◌, ℕ, Bool, zero, suc, ◌≤◌, List, [], ◌∷◌, length, refl, sym, ap}
use Rattle.std.proofs.Common.{◌∙◌, subst, arith}
use Rattle.std.specs.Prelude.{◌≢◌, ◌<◌, take, Some, All, Contains, codes, slice_get}
use Rattle.std.specs.List.{AllAdjacentBelow}
use Rattle.std.specs.Cmp.Lexicographic.{slice_cmp}
use Rattle.std.specs.Ordering.{nat_cmp}
use Rattle.std.specs.declared.cmp.Ordering.TheVariants.{Less}
use Rattle.std.proofs.lemmas.List.Elements.{All-nil, All-cons, All-contains_itself}
use Rattle.rn_value.specs.Kinds.{HasKind, kind_step}
use Rattle.rn_value.specs.declared.value.InstRef.{InstRef}
use Rattle.rn_value.specs.declared.value.InstRef.TheVariants.{Old, New}
use Rattle.rn_value.specs.declared.value.Kind.{Kind, out-Kind}
use Rattle.rn_value.specs.declared.value.Kind.TheVariants as Kind
use Rattle.rn_value.specs.declared.value.Value.{Value, out-Value, fold_out-Value}
use Rattle.rn_value.specs.declared.value.Value.TheVariants as Value
use Rattle.rn_model.specs.declared.expr.Expr.TheVariants as E
use Rattle.rn_model.specs.declared.system.System.{System}
use Rattle.rn_model.specs.declared.system.Creation.{Creation}
use Rattle.rn_model.specs.declared.system.Downlink.{Downlink}
use Rattle.rn_model.specs.declared.system.Transition.{Transition}
use Rattle.rn_model.specs.declared.system.NetArc.{NetArc}
use Rattle.rn_model.specs.declared.system.Uplink.{Uplink}
use Rattle.rn_model.specs.declared.binding.Node.{Node}
use Rattle.rn_model.specs.declared.binding.Binding.{Binding}
use Rattle.rn_model.specs.Systems.{empty_transition, transition_of}
use Rattle.rn_model.specs.Markings.{Marking, initial_marking, net_of}
use Rattle.rn_model.specs.Bindings.{Shape, IsNodeOf, IsOfCreation, IsCalled, Calls, HasUplinkOf}
use Rattle.rn_model.specs.Bindings.{env_of, node_at}
use Rattle.rn_model.specs.Lists.{value_beside}
use Rattle.rn_model.specs.Agreement.{Agrees, NodeAgrees, CallAgrees, HaveKindsOf}
use Rattle.rn_model.specs.Derivation.{Item, entry, target, items_of, Derived}
use Rattle.rn_model.specs.Derivation.{Forced, IsVarForced, MayEnter, term_value_at}
use Rattle.rn_model.specs.Enabling.{Enabled, HasRoom, MadeHasRoom, PlaceFits}
use Rattle.rn_model.specs.RoundLaws.{ComeIn, IsClosed, ForceAll}
use Rattle.rn_model.proofs.AskedValues.{got_contained}
use Rattle.rn_model.proofs.EnablingLemmas.{not_in_nil}
use Rattle.rn_model.proofs.EvaluationLemmas.{worth_rules}
use Rattle.rn_model.proofs.DerivationLemmas.{term_rules}
use Rattle.rn_model.proofs.PlacesOfArcs.{places_fit_by_arcs}
use Rattle.rn_model.proofs.Rounds.{closed_decide}

abbrev call : Downlink
call = record { target = E.Var 0; channel = 0; args = [] }

abbrev makes : Creation
makes = record { var = 0; net = 1 }

abbrev answer : Uplink
answer = record { channel = 0; args = [] }

abbrev t : Transition
t = record empty_transition { vars = 0 ∷ []; creations = makes ∷ []; downlinks = call ∷ [] }

abbrev u : Transition
u = record empty_transition { uplink = Some answer }

abbrev sys : System
sys = record {
  nets =
      record {
        name = codes "main";
        vars = record { name = codes "n"; kind = Kind.Net } ∷ [];
        places = [];
        transitions = t ∷ [];
      }
      ∷ record { name = codes "w"; vars = []; places = []; transitions = u ∷ [] }
      ∷ [];
  channels = record { name = codes "c"; kinds = [] } ∷ [];
}

-- the start, whose variable has this value
abbrev root_with : InstRef → Node
root_with i =
    record { path = []; inst = Old 1; net = 0; transition = 0; values = Value.Inst i ∷ [] }

-- its child, on this instance
abbrev child_on : InstRef → Node
child_on i = record { path = 0 ∷ []; inst = i; net = 1; transition = 0; values = [] }

abbrev root : Node
root = root_with (New [] 0)

abbrev child : Node
child = child_on (New [] 0)

abbrev b : Binding
b = record { nodes = root ∷ child ∷ [] }

abbrev m : Marking
m = initial_marking sys

root_there : Contains b.nodes root
root_there = (0, omega arith, refl)

child_there : Contains b.nodes child
child_there = (1, omega arith, refl)

calls_child : Calls sys b root 0 call child
calls_child = record {
  caller_there = root_there;
  node_there = child_there;
  downlink_there = refl;
  path = refl;
}

both : (P : Node → Type 0) → P root → P child → All P b.nodes
both P first second = All-cons P root (child ∷ []) first (All-cons P child [] second (All-nil P))

-- what holds of both nodes holds of each
each : (P : Node → Type 0) → P root → P child → (x : Node) → Contains b.nodes x → P x
each P first second x (zero, h, e) = subst P e first
each P first second x (suc zero, h, e) = subst P e second
each P first second x (suc (suc k), h, e) = absurd (let no : ⊥ = omega (arith, h) in no)

abbrev HasDownlink : ℕ → Downlink → Node → Type 0
HasDownlink i d caller = slice_get (transition_of sys caller).downlinks i ≡ Some d

abbrev HasChild : ℕ → Downlink → Node → Type 0
HasChild i d caller = HasDownlink i d caller →
    (x : Node) × Calls sys b caller i d x × HasUplinkOf sys x d.channel

child_of_root : (i : ℕ) (d : Downlink) → HasChild i d root
child_of_root zero d e =
    let same : call ≡ d = cc in
    subst (λ d. (x : Node) × Calls sys b root 0 d x × HasUplinkOf sys x d.channel) same
    (child, calls_child, (answer, refl, refl))
child_of_root (suc i) d e = absurd (let no : ⊥ = cc in no)

not_new : (j k : ℕ) (path p : List ℕ) → New [] 0 ≡ New path j → ([] ≡ path) × (0 ≡ j)
not_new j k path p e = (cc, cc)

abbrev HasMaker : List ℕ → ℕ → Type 0
HasMaker path j = (maker : Node) × (c : Creation)
    × (node_at b path ≡ Some maker)
    × (slice_get (transition_of sys maker).creations j ≡ Some c) × (1 ≡ c.net)

made_by_root : IsOfCreation sys b child
made_by_root path j e =
    let at = not_new j j path path e in
    subst (λ p. HasMaker p j) at.0 (subst (HasMaker []) at.1 (root, makes, refl, refl, refl))

abbrev IsAscending : Node → Node → Type 0
IsAscending x y = slice_cmp nat_cmp x.path y.path ≡ Less

ascending : AllAdjacentBelow IsAscending b.nodes 2
ascending zero d h = refl
ascending (suc k) d h = absurd (let no : ⊥ = omega (arith, h) in no)

shape : Shape sys b 1
shape = record {
  ascending = ascending;
  start = (root, refl, record { exists = (1, refl); uplink = refl });
  nodes = both (IsNodeOf sys)
      (record { net = omega arith; transition = omega arith; values = refl })
      (record { net = omega arith; transition = omega arith; values = refl });
  children = λ caller i d there e.
      each (HasChild i d) (child_of_root i d) (λ e. absurd (let no : ⊥ = cc in no)) caller there e;
  called = both (λ x. x.path ≢ [] → IsCalled sys b x) (λ named. absurd (named refl))
      (λ named. (root, 0, call, calls_child));
  deep = both (λ x. length x.path ≤ 1) (omega arith) (omega arith);
  many = omega arith;
  created = both (IsOfCreation sys b) (λ path j e. absurd (let no : ⊥ = cc in no)) made_by_root;
}

-- an instance has the kind of instances
instance_kind : (i : InstRef) → HasKind (Value.Inst i) Kind.Net
instance_kind i =
    let step = λ (v : _) (k : Kind). kind_step v (out-Kind k) in
    ap (λ f. f Kind.Net) (fold_out-Value (Kind → Bool) step (Value.Inst i))
    ∙ rw (Value.outs-Inst i, Kind.outs-Net)

creates : (j : ℕ) (c : Creation) → slice_get (makes ∷ []) j ≡ Some c →
    value_beside (env_of sys root).pairs c.var ≡ Some (Value.Inst (New [] j))
creates zero c e =
    let same : makes ≡ c = cc in
    subst (λ c. value_beside (env_of sys root).pairs c.var ≡ Some (Value.Inst (New [] 0))) same refl
creates (suc j) c e = absurd (let no : ⊥ = cc in no)

root_agrees : NodeAgrees sys root
root_agrees = record {
  kinds = (instance_kind (New [] 0), tt);
  equalities = All-nil _;
  creations = creates;
  guards = All-nil _;
  arcs = All-nil _;
  downlinks = All-cons (λ d. HaveKindsOf sys (env_of sys root) d.channel d.args) call [] tt
      (All-nil _);
  uplink = λ u e. absurd (let no : ⊥ = cc in no);
}

child_agrees : NodeAgrees sys child
child_agrees = record {
  kinds = tt;
  equalities = All-nil _;
  creations = λ j c e. absurd (let no : ⊥ = cc in no);
  guards = All-nil _;
  arcs = All-nil _;
  downlinks = All-nil _;
  uplink = λ u e. let same : answer ≡ u = cc in
      subst (λ u. HaveKindsOf sys (env_of sys child) u.channel u.args)
      same tt;
}

abbrev AgreesAt : ℕ → Downlink → Node → Node → Type 0
AgreesAt i d caller x = Calls sys b caller i d x → CallAgrees sys caller d x

-- the child is the only node that the call calls
root_calls : (i : ℕ) (d : Downlink) (x : Node) → AgreesAt i d root x
root_calls zero d x c =
    let same : call ≡ d = let e = c.downlink_there in cc in
    subst (λ d. CallAgrees sys root d x) same
    (each (λ x. x.path ≡ 0 ∷ [] → CallAgrees sys root call x)
    (λ path. absurd (let no : ⊥ = cc in no))
    (λ path. record { target = simp worth_rules; args = tt }) x c.node_there c.path)
root_calls (suc i) d x c = absurd (let e = c.downlink_there in let no : ⊥ = cc in no)

agrees : Agrees sys b
agrees = record {
  nodes = both (NodeAgrees sys) root_agrees child_agrees;
  calls = λ caller i d x c.
      each (λ caller. AgreesAt i d caller x) (root_calls i d x)
      (λ c. absurd (let e = c.downlink_there in let no : ⊥ = cc in no)) caller c.caller_there c;
}

-- The two entries come in one after the other.
abbrev items : List Item
items = entry root ∷ entry child ∷ []

items_are : items_of sys b ≡ items
items_are = refl

-- the creation forces the call's target
target_forced : (In : Item → Type 0) → In (entry root) →
    Forced sys b In (λ a. term_value_at a root (target 0) (E.Var 0))
target_forced In there = (
  Value.Inst (New [] 0),
  λ a all.
      let made : a.var [] 0 ≡ Value.Inst (New [] 0) =
      (all (entry root) there).creations 0 makes refl in
      let read : term_value_at a root (target 0) (E.Var 0) ≡ Some (a.var [] 0) = simp term_rules in
      read ∙ ap Some made,
)

entries_same : (x y : Node) → entry x ≡ entry y → x ≡ y
entries_same x y e = cc

differ : ¬ (root ≡ child)
differ e = let paths : root.path ≡ child.path = ap (λ x. x.path) e in let no : ⊥ = cc in no

child_enters : MayEnter sys b (Contains (entry root ∷ [])) (entry child)
child_enters = (
  root,
  0,
  call,
  calls_child,
  (0, omega arith, refl),
  target_forced (Contains (entry root ∷ [])) (0, omega arith, refl),
)

enters : (k : ℕ) (item : Item) → 0 < k → slice_get items k ≡ Some item →
    MayEnter sys b (Contains (take k items)) item
enters zero item low e = absurd (let no : ⊥ = omega (arith, low) in no)
enters (suc zero) item low e =
    let same : entry child ≡ item = cc in
    subst (MayEnter sys b (Contains (entry root ∷ []))) same child_enters
enters (suc (suc k)) item low e = absurd (let no : ⊥ = cc in no)

once : (j k : ℕ) (item : Item) → slice_get items j ≡ Some item → slice_get items k ≡ Some item →
    j ≡ k
once zero zero item e f = refl
once (suc zero) (suc zero) item e f = refl
once zero (suc zero) item e f =
    let same : entry root ≡ entry child = cc in absurd (differ (entries_same root child same))
once (suc zero) zero item e f =
    let same : entry root ≡ entry child = cc in absurd (differ (entries_same root child same))
once (suc (suc j)) k item e f = absurd (let no : ⊥ = cc in no)
once zero (suc (suc k)) item e f = absurd (let no : ⊥ = cc in no)
once (suc zero) (suc (suc k)) item e f = absurd (let no : ⊥ = cc in no)

come_in : ComeIn sys b items
come_in = record {
  start = (root, root_there, refl, refl);
  each = λ k item e. subst (λ xs. Contains xs item) (sym items_are) (got_contained items k item e);
  enter = enters;
  once = once;
}

closed : IsClosed sys b items
closed item there may = subst (λ xs. Contains xs item) items_are there

forces : ForceAll sys b items
forces = both (λ x. All (IsVarForced sys b (Contains items) x) (transition_of sys x).vars)
    (All-cons (IsVarForced sys b (Contains items) root) 0 [] (
      Value.Inst (New [] 0),
      λ a all.
          ap Some ((all (entry root) (0, omega arith, refl)).creations 0 makes refl),
    ) (All-nil _))
    (All-nil _)

derived : Derived sys b
derived =
    (closed_decide sys b 1 items shape come_in closed).1
    (subst (All (Contains items)) (sym items_are) (All-contains_itself items), forces)

-- no arc names a place
no_arcs : (x : Node) (arc : NetArc) → Contains b.nodes x →
    Contains (transition_of sys x).arcs arc → PlaceFits sys m b x.inst arc.place
no_arcs x arc there has =
    absurd (each (λ x. ¬ Contains (transition_of sys x).arcs arc) (not_in_nil arc) (not_in_nil arc)
    x there has)

start_is_there : (n : ℕ) → root.inst ≡ Old n → net_of m n ≡ Some root.net
start_is_there n e =
    let one : 1 ≡ n = cc in subst (λ n. net_of m n ≡ Some 0) one refl

enabled : Enabled sys m b 1
enabled = record {
  shape = shape;
  agrees = agrees;
  derived = derived;
  fits = record {
    there = both (λ x. (n : ℕ) → x.inst ≡ Old n → net_of m n ≡ Some x.net) start_is_there
        (λ n e. absurd (let no : ⊥ = cc in no));
    places = places_fit_by_arcs sys m b no_arcs;
    room = both (HasRoom sys m b)
        (λ n place most is has. absurd (let no : ⊥ = cc in no))
        (λ n place most is has. absurd (let no : ⊥ = cc in no));
    made = All-cons (MadeHasRoom sys b) (record { path = []; index = 0; net = 1 }) []
        (λ place p most is has. absurd (let no : ⊥ = cc in no)) (All-nil _);
  };
}

-- The child stands on no other instance: there is no second creation,
abbrev second : Binding
second = record { nodes = root ∷ child_on (New [] 1) ∷ [] }

no_second : (depth : ℕ) → ¬ Shape sys second depth
no_second depth s =
    let made = s.created 1 (child_on (New [] 1)) (omega arith) [] 1 refl in
    let maker : root ≡ made.0 = let e = made.2 in cc in
    let none : slice_get (makes ∷ []) 1 ≡ Some made.1 =
    subst (λ x. slice_get (transition_of sys x).creations 1 ≡ Some made.1) (sym maker) made.3 in
    let no : ⊥ = cc in no

-- and the creation's variable is no instance that is there
abbrev old_root : Node
old_root = root_with (Old 1)

not_old : (x : Node) → ¬ Agrees sys (record { nodes = old_root ∷ x ∷ [] })
not_old x agrees =
    let value = (agrees.nodes 0 old_root (omega arith)).creations 0 makes refl in
    let same : Value.Inst (Old 1) ≡ Value.Inst (New [] 0) = cc in
    let opened = sym (Value.outs-Inst (Old 1)) ∙ ap out-Value same ∙ Value.outs-Inst (New [] 0) in
    let no : ⊥ = cc in no
