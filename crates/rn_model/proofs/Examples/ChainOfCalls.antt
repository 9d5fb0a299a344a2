-- A chain of two calls: its binding has three nodes, the last of depth 2.
-- channel c(); net main { trans start { this:c(); } trans down { :c(); this:c(); } trans base { :c(); } }
use Rattle.std.proofs.Common.{◌≡◌, ℕ, zero, suc, ◌≤◌, List, [], ◌∷◌, length, refl, sym, ap, ◌∙◌, subst, arith}
use Rattle.std.specs.Prelude.{◌≢◌, Some, Contains, codes, slice_get}
use Rattle.std.specs.List.{AllAdjacentBelow}
use Rattle.std.specs.Cmp.Lexicographic.{slice_cmp}
use Rattle.std.specs.Ordering.{nat_cmp}
use Rattle.std.specs.declared.cmp.Ordering.TheVariants.{Less}
use Rattle.std.proofs.lemmas.List.Elements.{All-nil, All-cons}
use Rattle.rn_value.specs.declared.value.InstRef.TheVariants.{Old}
use Rattle.rn_model.specs.declared.expr.Expr.TheVariants as E
use Rattle.rn_model.specs.declared.system.System.{System}
use Rattle.rn_model.specs.declared.system.Transition.{Transition}
use Rattle.rn_model.specs.declared.system.Uplink.{Uplink}
use Rattle.rn_model.specs.declared.system.Downlink.{Downlink}
use Rattle.rn_model.specs.declared.binding.Node.{Node}
use Rattle.rn_model.specs.declared.binding.Binding.{Binding}
use Rattle.rn_model.specs.Systems.{empty_transition, transition_of}
use Rattle.rn_model.specs.Bindings.{Shape, IsNodeOf, IsOfCreation, IsCalled, Calls, HasUplinkOf}

abbrev call : Downlink
call = record { target = E.This; channel = 0; args = [] }

abbrev answer : Uplink
answer = record { channel = 0; args = [] }

abbrev start : Transition
start = record empty_transition { downlinks = call ∷ [] }

abbrev down : Transition
down = record empty_transition { uplink = Some answer; downlinks = call ∷ [] }

abbrev base : Transition
base = record empty_transition { uplink = Some answer }

abbrev sys : System
sys = record {
  nets = record { name = codes "main"; vars = []; places = []; transitions = start ∷ down ∷ base ∷ [] } ∷ [];
  channels = record { name = codes "c"; kinds = [] } ∷ [];
}

abbrev node : List ℕ → ℕ → Node
node path transition = record { path = path; inst = Old 1; net = 0; transition = transition; values = [] }

abbrev root : Node
root = node [] 0

abbrev child : Node
child = node (0 ∷ []) 1

abbrev grandchild : Node
grandchild = node (0 ∷ 0 ∷ []) 2

abbrev b : Binding
b = record { nodes = root ∷ child ∷ grandchild ∷ [] }

root_there : Contains b.nodes root
root_there = (0, omega arith, refl)

child_there : Contains b.nodes child
child_there = (1, omega arith, refl)

grandchild_there : Contains b.nodes grandchild
grandchild_there = (2, omega arith, refl)

root_calls : Calls sys b root 0 call child
root_calls = record { caller_there = root_there; node_there = child_there; downlink_there = refl; path = refl }

child_calls : Calls sys b child 0 call grandchild
child_calls = record { caller_there = child_there; node_there = grandchild_there; downlink_there = refl; path = refl }

abbrev IsAscending : Node → Node → Type 0
IsAscending x y = slice_cmp nat_cmp x.path y.path ≡ Less

ascending : AllAdjacentBelow IsAscending b.nodes 3
ascending zero d h = refl
ascending (suc zero) d h = refl
ascending (suc (suc k)) d h = let no : ⊥ = omega (arith, h) in absurd no

-- each downlink of each node has its child
abbrev HasChild : Node → ℕ → Downlink → Type 0
HasChild caller i d = (x : Node) × Calls sys b caller i d x × HasUplinkOf sys x d.channel

child_of_root : (i : ℕ) (d : Downlink) → slice_get (call ∷ []) i ≡ Some d → HasChild root i d
child_of_root zero d e = let same : call ≡ d = cc in subst (HasChild root 0) same (child, root_calls, (answer, refl, refl))
child_of_root (suc i) d e = let no : ⊥ = cc in absurd no

child_of_child : (i : ℕ) (d : Downlink) → slice_get (call ∷ []) i ≡ Some d → HasChild child i d
child_of_child zero d e = let same : call ≡ d = cc in subst (HasChild child 0) same (grandchild, child_calls, (answer, refl, refl))
child_of_child (suc i) d e = let no : ⊥ = cc in absurd no

abbrev HasDownlink : ℕ → Downlink → Node → Type 0
HasDownlink i d caller = slice_get (transition_of sys caller).downlinks i ≡ Some d

children : (caller : Node) (i : ℕ) (d : Downlink) → Contains b.nodes caller → HasDownlink i d caller → HasChild caller i d
children caller i d (zero, h, e) there = subst (λ c. HasChild c i d) e (child_of_root i d (subst (HasDownlink i d) (sym e) there))
children caller i d (suc zero, h, e) there = subst (λ c. HasChild c i d) e (child_of_child i d (subst (HasDownlink i d) (sym e) there))
children caller i d (suc (suc zero), h, e) there =
    let at_last : HasDownlink i d grandchild = subst (HasDownlink i d) (sym e) there in
    let no : ⊥ = cc in absurd no
children caller i d (suc (suc (suc k)), h, e) there = let no : ⊥ = omega (arith, h) in absurd no

abbrev IsCalledUnlessStart : Node → Type 0
IsCalledUnlessStart x = x.path ≢ [] → IsCalled sys b x

abbrev IsWithinTwo : Node → Type 0
IsWithinTwo x = length x.path ≤ 2

not_new : (x : Node) → x.inst ≡ Old 1 → IsOfCreation sys b x
not_new x e path j is = let no : ⊥ = cc in absurd no

-- the tree of three nodes has the shape within depth 2
shape : Shape sys b 2
shape = record {
  ascending = ascending;
  start = (root, refl, record { exists = (1, refl); uplink = refl });
  nodes = All-cons (IsNodeOf sys) root (child ∷ grandchild ∷ []) (record { net = omega arith; transition = omega arith; values = refl })
      (All-cons (IsNodeOf sys) child (grandchild ∷ []) (record { net = omega arith; transition = omega arith; values = refl })
      (All-cons (IsNodeOf sys) grandchild [] (record { net = omega arith; transition = omega arith; values = refl }) (All-nil (IsNodeOf sys))));
  children = children;
  called = All-cons IsCalledUnlessStart root (child ∷ grandchild ∷ []) (λ named. absurd (named refl))
      (All-cons IsCalledUnlessStart child (grandchild ∷ []) (λ named. (root, 0, call, root_calls))
      (All-cons IsCalledUnlessStart grandchild [] (λ named. (child, 0, call, child_calls)) (All-nil IsCalledUnlessStart)));
  deep = All-cons IsWithinTwo root (child ∷ grandchild ∷ []) (omega arith) (All-cons IsWithinTwo child (grandchild ∷ []) (omega arith) (All-cons IsWithinTwo grandchild [] (omega arith) (All-nil IsWithinTwo)));
  many = omega arith;
  created = All-cons (IsOfCreation sys b) root (child ∷ grandchild ∷ []) (not_new root refl)
      (All-cons (IsOfCreation sys b) child (grandchild ∷ []) (not_new child refl) (All-cons (IsOfCreation sys b) grandchild [] (not_new grandchild refl) (All-nil (IsOfCreation sys b))));
}

-- and not within depth 1
not_within_one : ¬ Shape sys b 1
not_within_one s = let long : 2 ≤ 1 = s.deep 2 grandchild (omega arith) in let no : ⊥ = omega (arith, long) in no

-- nor within depth 0
not_within_zero : ¬ Shape sys b 0
not_within_zero s = let long : 1 ≤ 0 = s.deep 1 child (omega arith) in let no : ⊥ = omega (arith, long) in no

-- without its last node the tree hasn't the shape at any depth: the second call isn't answered
abbrev cut : Binding
cut = record { nodes = root ∷ child ∷ [] }

paths_differ : (x : Node) → Contains cut.nodes x → x.path ≢ 0 ∷ 0 ∷ []
paths_differ x (zero, h, e) is = let at_root : root.path ≡ 0 ∷ 0 ∷ [] = ap (λ y. y.path) e ∙ is in let no : ⊥ = cc in no
paths_differ x (suc zero, h, e) is = let at_child : child.path ≡ 0 ∷ 0 ∷ [] = ap (λ y. y.path) e ∙ is in let no : ⊥ = cc in no
paths_differ x (suc (suc k), h, e) is = let no : ⊥ = omega (arith, h) in no

cut_off : (depth : ℕ) → ¬ Shape sys cut depth
cut_off depth s =
    let found = s.children child 0 call (1, omega arith, refl) refl in
    paths_differ found.0 found.1.node_there found.1.path
