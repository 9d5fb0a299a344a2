-- Nodes on paths, their children and their callers.
use Rattle.std.proofs.Common.{◌≡◌, ◌≢◌, ℕ, suc, zero, ◌<◌, ◌≤◌, Bool, true, false, List, [], ◌∷◌}
use Rattle.std.proofs.Common.{◌++◌, length, get_or, refl, sym, ap, ◌∙◌, subst, arith}
use Rattle.std.specs.Prelude.{Some, None, find, nat_eq, nat_lt, Contains, All, IsTrue}
use Rattle.std.specs.Prelude.{◌↔◌}
use Rattle.std.specs.Cmp.Lexicographic.{pointwise}
use Rattle.std.specs.Cmp.Lexicographic.{slice_cmp}
use Rattle.std.specs.Cmp.{tied_itself}
use Rattle.std.specs.Ordering.{nat_cmp}
use Rattle.std.specs.declared.cmp.Ordering.TheVariants.{Less}
use Rattle.std.proofs.lemmas.Cmp.{nat_cmp_total}
use Rattle.std.proofs.lemmas.Bool.Decides.{nat_tests}
use Rattle.std.proofs.lemmas.Option.{slice_get_within, slice_get-get_or, same_Some}
use Rattle.std.proofs.lemmas.List.Elements.{All-contains, Contains-get_or}
use Rattle.std.proofs.lemmas.List.{same_from_push}
use Rattle.rn_items.proofs.Numbers.{same_numbers}
use Rattle.rn_items.proofs.Lists.{element_at}
use Rattle.rn_model.specs.declared.system.System.{System}
use Rattle.rn_model.specs.declared.binding.Node.{Node}
use Rattle.rn_model.specs.declared.binding.Binding.{Binding}
use Rattle.rn_model.specs.Limits.{most_nodes}
use Rattle.rn_model.specs.Systems.{transition_of}
use Rattle.rn_model.specs.Bindings.{node_at, Shape, IsStart}
use Rattle.rn_agree.specs.Paths.{AscendByPath}
use Rattle.rn_agree.specs.link.Parts.{IsInRange, HasChildren, HasCaller, IsLinked}
use Rattle.rn_agree.proofs.PathLemmas.{found_there, lower_first}

find_passes : {X : Type 0} (test : X → Bool) (xs : List X) (y : X) → find test xs ≡ Some y →
    Contains xs y × (test y ≡ true)
find_passes test [] y e = absurd (let no : ⊥ = cc in no)
find_passes test (x ∷ xs) y e = elim (test x) as
    (λ t. test x ≡ t → Contains (x ∷ xs) y × (test y ≡ true)) [
      | true ↦ λ passes.
          let same : x ≡ y = same_Some x y (rw passes at e) in
          ((0, omega arith, same), ap test (sym same) ∙ passes)
      | false ↦ λ fails.
          let rest = find_passes test xs y (rw fails at e) in
          ((suc rest.0.0, omega (arith, rest.0.1), rest.0.2), rest.1)
    ] refl

-- the node on a path is one of the binding's, and has this path
pub on_its_path : (b : Binding) (path : List ℕ) (node : Node) → node_at b path ≡ Some node →
    Contains b.nodes node × (node.path ≡ path)
on_its_path b path node e =
    let found = find_passes (λ (n : Node). pointwise nat_eq n.path path) b.nodes node e in
    (found.0, same_numbers node.path path found.1)

-- and each node is the one on its path
pub found_itself : (b : Binding) (node : Node) → AscendByPath b.nodes → Contains b.nodes node →
    node_at b node.path ≡ Some node
found_itself b node up (k, h, e) =
    found_there b.nodes node.path k node up h (ap (λ (n : Node). n.path) e)
    ∙ slice_get-get_or b.nodes k node h ∙ ap (λ n. Some n) e

not_empty : (p : List ℕ) (i : ℕ) → p ++ i ∷ [] ≢ []
not_empty [] i e = let no : ⊥ = cc in no
not_empty (x ∷ p) i e = let no : ⊥ = cc in no

-- A node whose path ends in this number.
module _ (system : System) (b : Binding) (node : Node) (front : List ℕ) (last : ℕ)
    (up : AscendByPath b.nodes) (ends : node.path ≡ front ++ last ∷ []) where
  caller_found : HasCaller system b node → (caller : Node) × (node_at b front ≡ Some caller)
      × (last < length (transition_of system caller).downlinks)
  caller_found has =
      let (caller, i, downlink, there, at, path) = has (λ e. not_empty front last (sym ends ∙ e)) in
      let same = same_from_push front caller.path last i (sym ends ∙ path) in (
        caller,
        subst (λ p. node_at b p ≡ Some caller) (sym same.0) (found_itself b caller up there),
        subst (λ j. j < length (transition_of system caller).downlinks) (sym same.1)
            (slice_get_within (transition_of system caller).downlinks i downlink at),
      )

  -- it has a caller exactly where the node in front of it has a downlink of this number
  pub called_from : (caller : Node) (count : ℕ) → node_at b front ≡ Some caller →
      count ≡ length (transition_of system caller).downlinks →
      IsTrue (nat_lt last count) ↔ HasCaller system b node
  called_from caller count e is = (
    λ low full.
        let at = on_its_path b front caller e in
        let below : last < length (transition_of system caller).downlinks
        = let low : last < count = grind (arith, nat_tests) in subst (λ n. last < n) is low in
        let downlinks = (transition_of system caller).downlinks in
        let (downlink, there) = element_at downlinks last below in (
          caller,
          last,
          downlink,
          at.0,
          there,
          ends ∙ ap (λ p. p ++ last ∷ []) (sym at.1),
        ),
    λ has.
        let (other, f, below) = caller_found has in
        let same : caller ≡ other = same_Some caller other (sym e ∙ f) in
        let low : last < count = subst (λ n. last < n)
        (sym (is ∙ ap (λ n. length (transition_of system n).downlinks) same)) below in
        grind (arith, nat_tests),
  )

  -- and none where no node is there
  pub called_by_none : node_at b front ≡ None → HasCaller system b node → ⊥
  called_by_none e has =
      let (other, f, below) = caller_found has in
      let both : None ≡ Some other = sym e ∙ f in
      let no : ⊥ = cc in no

snoc_less : (p : List ℕ) (i j : ℕ) → i < j → slice_cmp nat_cmp (p ++ i ∷ []) (p ++ j ∷ []) ≡ Less
snoc_less [] i j h = let low : nat_lt i j ≡ true = grind (arith, nat_tests) in rw low refl
snoc_less (x ∷ p) i j h = rw (tied_itself nat_cmp_total x) (snoc_less p i j h)

-- Where each downlink of a node has its child.
module _ (system : System) (b : Binding) (node : Node) (up : AscendByPath b.nodes)
    (has : HasChildren system b node) where
  abbrev count : ℕ
  count = length (transition_of system node).downlinks

  Standing : ℕ → Type 0
  Standing i = (k : ℕ) × (child : Node) × (i ≤ k) × (k < length b.nodes)
      × (get_or b.nodes k child ≡ child) × (child.path ≡ node.path ++ i ∷ [])

  child_stands : (i : ℕ) → i < count →
      (k : ℕ) × (child : Node) × (k < length b.nodes) × (get_or b.nodes k child ≡ child)
      × (child.path ≡ node.path ++ i ∷ [])
  child_stands i h =
      let (downlink, at) = element_at (transition_of system node).downlinks i h in
      let (child, on, answers) = has i downlink at in
      let ((k, low, e), path) = on_its_path b (node.path ++ i ∷ []) child on in
      (k, child, low, e, path)

  -- the child by downlink i is the node of an index that is no smaller
  no_smaller : (i : ℕ) → i < count → Standing i
  unfolding Standing
  no_smaller zero h = let (k, child, low, e, path) = child_stands 0 h in
      (k, child, omega arith, low, e, path)
  no_smaller (suc i) h =
      let (k, child, place, low, e, path) = no_smaller i (omega (arith, h)) in
      let (j, next, inside, f, way) = child_stands (suc i) h in
      let rises : slice_cmp nat_cmp child.path next.path ≡ Less
      = subst (λ p. slice_cmp nat_cmp p next.path ≡ Less) (sym path)
      (subst (λ p. slice_cmp nat_cmp (node.path ++ i ∷ []) p ≡ Less) (sym way)
      (snoc_less node.path i (suc i) (omega arith))) in
      let later : k < j = lower_first b.nodes up k j child next low inside e f rises in
      (j, next, omega (arith, place, later), inside, f, way)

  -- so there are no more downlinks than nodes
  pub no_more_downlinks : count ≤ length b.nodes
  unfolding Standing
  no_more_downlinks = by_count count refl
    where
      by_count : (n : ℕ) → n ≡ count → n ≤ length b.nodes
      by_count zero e = omega arith
      by_count (suc i) e =
          let (k, child, place, low, there, path) = no_smaller i (omega (arith, e)) in
          omega (arith, place, low)

-- what a binding asks besides its links
pub record IsInOrder (system : System) (b : Binding) (depth : ℕ) : Type 0 where
  pub many : length b.nodes ≤ most_nodes
  pub ascending : AscendByPath b.nodes
  pub in_range : All (IsInRange system depth) b.nodes
  pub start : (node : Node) × (node_at b [] ≡ Some node) × IsStart system node

-- nodes in order that are linked have the shape
pub shaped : (system : System) (b : Binding) (depth : ℕ) → IsInOrder system b depth →
    All (IsLinked system b) b.nodes → Shape system b depth
shaped system b depth order linked = record {
  ascending = order.ascending;
  start = order.start;
  nodes = λ k d h. (order.in_range k d h).own;
  children = λ caller i downlink there at.
      let of = All-contains (IsLinked system b) b.nodes caller linked there in
      let (child, on, answers) = of.children i downlink at in
      let place = on_its_path b (caller.path ++ i ∷ []) child on in (
        child,
        record {
          caller_there = there;
          node_there = place.0;
          downlink_there = at;
          path = place.1;
        },
        answers,
      );
  called = λ k d h full.
      let (caller, i, downlink, there, at, path) = (linked k d h).called full in (
        caller,
        i,
        downlink,
        record {
          caller_there = there;
          node_there = Contains-get_or b.nodes k d h;
          downlink_there = at;
          path = path;
        },
      );
  deep = λ k d h. (order.in_range k d h).deep;
  many = order.many;
  created = λ k d h. (linked k d h).created;
}

-- and in the shape each node is linked
pub links_of_shape : (system : System) (b : Binding) (depth : ℕ) → Shape system b depth →
    All (IsLinked system b) b.nodes
links_of_shape system b depth shape k d h = record {
  children = λ i downlink at.
      let (child, calls, answers) = shape.children (get_or b.nodes k d) i downlink
      (Contains-get_or b.nodes k d h) at in (
        child,
        subst (λ p. node_at b p ≡ Some child) calls.path
            (found_itself b child shape.ascending calls.node_there),
        answers,
      );
  called = λ full.
      let (caller, i, downlink, calls) = shape.called k d h full in
      (caller, i, downlink, calls.caller_there, calls.downlink_there, calls.path);
  created = shape.created k d h;
}
