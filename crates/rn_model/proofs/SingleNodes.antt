-- Where no node calls another, a binding has one node.
use Rattle.std.proofs.Common.{◌≡◌, ◌≤◌, ◌+◌, ℕ, zero, suc, List, [], ◌∷◌, length, length-append}
use Rattle.std.proofs.Common.{refl, sym, ap, ◌∙◌, subst, arith}
use Rattle.std.specs.Prelude.{◌≢◌, Contains, Some, slice_get}
use Rattle.std.specs.Cmp.Lexicographic.{slice_cmp}
use Rattle.std.specs.Ordering.{nat_cmp}
use Rattle.std.specs.declared.cmp.Ordering.TheVariants.{Less}
use Rattle.std.proofs.lemmas.List.Elements.{All-contains}
use Rattle.rn_model.specs.declared.system.System.{System}
use Rattle.rn_model.specs.declared.system.Downlink.{Downlink}
use Rattle.rn_model.specs.declared.binding.Node.{Node}
use Rattle.rn_model.specs.declared.binding.Binding.{Binding}
use Rattle.rn_model.specs.Systems.{transition_of}
use Rattle.rn_model.specs.Bindings.{Shape, IsCalled, node_at}
use Rattle.rn_model.proofs.NodesByPath.{node_at-path}

abbrev CallsNone : System → List Node → Type 0
CallsNone system nodes = (node : Node) → Contains nodes node → (transition_of system node).downlinks ≡ []

no_downlink : (i : ℕ) (d : Downlink) (ds : List Downlink) → ds ≡ [] → slice_get ds i ≡ Some d → ⊥
no_downlink i d ds none here =
    let at_none : slice_get [] i ≡ Some d = subst (λ xs. slice_get xs i ≡ Some d) none here in
    let no : ⊥ = cc in no

empty_path : (p : List ℕ) → ¬ (p ≢ []) → p ≡ []
empty_path [] h = refl
empty_path (i ∷ p) h = absurd (h (λ e. let no : ⊥ = cc in no))

-- no node is called, so each stands on the empty path
path_of : (system : System) (b : Binding) (depth : ℕ) → Shape system b depth → CallsNone system b.nodes → (node : Node) → Contains b.nodes node → node.path ≡ []
path_of system b depth shape none node there =
    empty_path node.path (λ named.
    let called : IsCalled system b node = All-contains (λ n. n.path ≢ [] → IsCalled system b n) b.nodes node shape.called there named in
    no_downlink called.1 called.2 (transition_of system called.0).downlinks (none called.0 called.3.caller_there) called.3.downlink_there)

abbrev of : List Node → Binding
of nodes = record { nodes = nodes }

not_below : (p q : List ℕ) → p ≡ [] → q ≡ [] → slice_cmp nat_cmp p q ≡ Less → ⊥
not_below p q e f less =
    let at_nil : slice_cmp nat_cmp [] [] ≡ Less = subst (λ r. slice_cmp nat_cmp [] r ≡ Less) f (subst (λ r. slice_cmp nat_cmp r q ≡ Less) e less) in
    let no : ⊥ = cc in no

of_nodes : (system : System) (nodes : List Node) (depth : ℕ) → Shape system (of nodes) depth → CallsNone system nodes →
    (n : Node) × (of nodes ≡ of (n ∷ [])) × (n.path ≡ [])
of_nodes system [] depth shape none =
    let here : node_at (of []) [] ≡ Some shape.start.0 = shape.start.1 in
    let no : ⊥ = cc in absurd no
of_nodes system (n ∷ []) depth shape none = (n, refl, path_of system (of (n ∷ [])) depth shape none n (0, omega arith, refl))
of_nodes system (n ∷ m ∷ others) depth shape none =
    let b = of (n ∷ m ∷ others) in
    let first : n.path ≡ [] = path_of system b depth shape none n (0, omega arith, refl) in
    let second : m.path ≡ [] = path_of system b depth shape none m (1, omega arith, refl) in
    absurd (not_below n.path m.path first second (shape.ascending 0 n (omega arith)))

-- a binding whose transitions have no downlinks has exactly one node, on the empty path
pub single_node : (system : System) (b : Binding) (depth : ℕ) → Shape system b depth → ((node : Node) → Contains b.nodes node → (transition_of system node).downlinks ≡ []) →
    (n : Node) × (b ≡ record { nodes = n ∷ [] }) × (n.path ≡ [])
single_node system b depth shape none = of_nodes system b.nodes depth shape none

-- A binding whose start has no downlinks.
module _ (system : System) (b : Binding) (depth : ℕ) (start : Node) (shape : Shape system b depth)
    (at : node_at b [] ≡ Some start) (none : (transition_of system start).downlinks ≡ []) where
  -- what stands on the empty path is the start
  the_start : (node : Node) → Contains b.nodes node → node.path ≡ [] → start ≡ node
  the_start node there empty =
      let found : node_at b [] ≡ Some node =
      subst (λ path. node_at b path ≡ Some node) empty
      (node_at-path system b depth node shape there) in
      cc

  -- no node is called by the start, so none is called at all
  start_path : (most : ℕ) (node : Node) → Contains b.nodes node → length node.path ≤ most →
      node.path ≡ []
  start_path zero node there short = by node.path short
    where
      by : (path : List ℕ) → length path ≤ 0 → path ≡ []
      by [] short = refl
      by (i ∷ path) short = let no : ⊥ = omega (arith, short) in absurd no
  start_path (suc most) node there short =
      empty_path node.path (λ named.
      let called : IsCalled system b node =
      All-contains (λ n. n.path ≢ [] → IsCalled system b n) b.nodes node shape.called there
      named in
      let calls = called.3 in
      let longer : length node.path ≡ length called.0.path + 1 =
      ap length calls.path ∙ length-append called.0.path (called.1 ∷ []) in
      let empty = start_path most called.0 calls.caller_there (omega (arith, short, longer)) in
      let caller = the_start called.0 calls.caller_there empty in
      no_downlink called.1 called.2 (transition_of system called.0).downlinks
      (subst (λ n. (transition_of system n).downlinks ≡ []) caller none) calls.downlink_there)

  none_call : CallsNone system b.nodes
  none_call node there =
      subst (λ n. (transition_of system n).downlinks ≡ [])
      (the_start node there (start_path (length node.path) node there (omega arith))) none

  -- it is the only node
  pub start_alone : b.nodes ≡ start ∷ []
  start_alone =
      let single = single_node system b depth shape none_call in
      let nodes : b.nodes ≡ single.0 ∷ [] = ap (λ (b : Binding). b.nodes) single.1 in
      let there : Contains b.nodes single.0 =
      subst (λ nodes. Contains nodes single.0) (sym nodes) (0, omega arith, refl) in
      nodes ∙ ap (λ n. n ∷ []) (sym (the_start single.0 there single.2))
