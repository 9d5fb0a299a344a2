-- The first of bindings by where they start.
use Rattle.std.proofs.Common.{◌≡◌, ◌≢◌, ◌<◌, ◌≤◌, ◌+◌, ℕ, zero, suc, List, [], ◌∷◌, length, get_or}
use Rattle.std.proofs.Common.{subst, sym, refl, ap, ◌∙◌, arith, ⊎_elim}
use Rattle.std.specs.Prelude.{Option, Some, None, Contains, IsNone, IfSome, ◌↔◌, ⊤, find, nat_le}
use Rattle.std.specs.Prelude.{nat_eq}
use Rattle.std.specs.List.{AllAdjacentBelow}
use Rattle.std.specs.List.Sorted.{IsPermutation, IsSorted}
use Rattle.std.specs.Ordering.{nat_cmp, ordering_then}
use Rattle.std.specs.Cmp.{nat_cmp_is}
use Rattle.std.specs.Cmp.Lexicographic.{pointwise, slice_cmp}
use Rattle.std.specs.declared.cmp.Ordering.TheVariants.{Less, Equal, Greater}
use Rattle.std.proofs.lemmas.List.Sorted.{Contains-permutation, IsPermutation-sym}
use Rattle.rn_value.specs.Order.{value_cmp}
use Rattle.rn_model.specs.declared.system.System.{System}
use Rattle.rn_model.specs.declared.binding.Binding.{Binding}
use Rattle.rn_model.specs.declared.binding.Node.{Node}
use Rattle.rn_model.specs.Enabling.{Enabled, DeadAt}
use Rattle.rn_model.specs.Markings.{Marking, net_of}
use Rattle.rn_model.specs.Order.{binding_cmp, node_cmp}
use Rattle.rn_model.proofs.EnablingLemmas.{not_in_nil}
use Rattle.rn_model.proofs.MarkingsOfRuns.{found_is_there}
use Rattle.rn_growing.specs.Decisions.{head_of}
use Rattle.rn_growing.specs.declared.decision.Head.{Head}
use Rattle.rn_search.specs.Sought.{StartsAt}
use Rattle.rn_channel.specs.declared.uplinks.Uplinks.{Uplinks}
use Rattle.rn_table.specs.Tables.{Kept}
use Rattle.rn_finder.specs.First.{IsFirstAmong, IsFirstOf}
use Rattle.rn_finder.specs.Starting.{AreJust, HasStartIn, IsSearchable, start_of}
use Rattle.rn_finder.proofs.Numbers.{less_or_not}
use Rattle.rn_finder.proofs.Ordered.{sorted_is_least}
use Rattle.rn_finder.proofs.StartingBindings.{HasStartBelow, HasStartBefore}
use Rattle.rn_finder.proofs.StartingBindings.{before_first, one_net, starts_among, starts_in}

-- the first of some that are sorted is the first of them
pub first_sorted : (found sorted : List Binding) → IsPermutation found sorted →
    IsSorted binding_cmp sorted → (first : Binding) → 0 < length sorted →
    first ≡ get_or sorted 0 first → IsFirstAmong found (Some first)
first_sorted found sorted moved up first some is = (
  Contains-permutation sorted found first (IsPermutation-sym found sorted moved) (0, some, sym is),
  λ c has. sorted_is_least sorted first c up is (Contains-permutation found sorted c moved has),
)

-- there are none where none are left when they are sorted
pub none_sorted : (found sorted : List Binding) → IsPermutation found sorted → length sorted ≡ 0 →
    found ≡ []
none_sorted [] sorted moved none = refl
none_sorted (b ∷ bs) sorted moved none =
    let there = Contains-permutation (b ∷ bs) sorted b moved (0, omega arith, refl) in
    absurd (let no : ⊥ = omega (arith, there.1, none) in no)

not_below_root : (p q : List ℕ) → q ≡ [] → slice_cmp nat_cmp p q ≡ Less → ⊥
not_below_root [] q root less =
    let here : slice_cmp nat_cmp [] [] ≡ Less = subst (λ r. slice_cmp nat_cmp [] r ≡ Less) root less in
    let no : ⊥ = cc in
    no
not_below_root (x ∷ xs) q root less =
    let here : slice_cmp nat_cmp (x ∷ xs) [] ≡ Less
    = subst (λ r. slice_cmp nat_cmp (x ∷ xs) r ≡ Less) root less in
    let no : ⊥ = cc in
    no

-- of ascending nodes that on the root is the first
pub root_is_first : (nodes : List Node) (node : Node) →
    AllAdjacentBelow (λ x y. slice_cmp nat_cmp x.path y.path ≡ Less) nodes (length nodes) →
    Contains nodes node → node.path ≡ [] → (rest : List Node) × (nodes ≡ node ∷ rest)
root_is_first [] node up (k, within, at) root = absurd (let no : ⊥ = omega (arith, within) in no)
root_is_first (x ∷ xs) node up (zero, within, at) root = (xs, ap (λ (y : Node). y ∷ xs) at)
root_is_first (x ∷ xs) node up (suc k, within, at) root =
    let place : k + 1 ≡ suc k = omega arith in
    let less = subst
    (λ j. slice_cmp nat_cmp (get_or (x ∷ xs) k node).path (get_or (x ∷ xs) j node).path ≡ Less)
    place (up k node (omega (arith, within))) in
    absurd (not_below_root (get_or (x ∷ xs) k node).path (get_or xs k node).path
    (ap (λ (y : Node). y.path) at ∙ root) less)

-- an enabled binding begins with the node of its start
pub begins : (system : System) (m : Marking) (depth : ℕ) (b : Binding) (start : Head) →
    Enabled system m b depth → StartsAt b start → start.path ≡ [] →
    (node : Node) × ((rest : List Node) × (b.nodes ≡ node ∷ rest)) × (head_of node ≡ start)
begins system m depth b start enabled (node, at, is) root = (
  node,
  root_is_first b.nodes node enabled.shape.ascending
      (found_is_there (λ (n : Node). pointwise nat_eq n.path []) b.nodes node at)
      (ap (λ (h : Head). h.path) is ∙ root),
  is,
)

-- which of two is less is decided by their first nodes, where these differ
pub by_first : (b c : Binding) (x y : Node) (xs ys : List Node) → b.nodes ≡ x ∷ xs →
    c.nodes ≡ y ∷ ys → binding_cmp b c ≡ ordering_then (node_cmp x y) (slice_cmp node_cmp xs ys)
by_first b c x y xs ys first second = rw (first, second) refl

less_at_first : (b c : Binding) (x y : Node) (xs ys : List Node) → b.nodes ≡ x ∷ xs →
    c.nodes ≡ y ∷ ys → node_cmp x y ≡ Less → binding_cmp b c ≢ Greater
less_at_first b c x y xs ys first second less is =
    let here : binding_cmp b c ≡ Less
    = by_first b c x y xs ys first second
    ∙ ap (λ o. ordering_then o (slice_cmp node_cmp xs ys)) less in
    let no : ⊥ = cc in
    no

less_number : (n k : ℕ) → n < k → nat_cmp n k ≡ Less
less_number n k less = sym (nat_cmp_is n k Less less)

tied : (n : ℕ) → nat_cmp n n ≡ Equal
tied n = sym (nat_cmp_is n n Equal refl)

-- the one starts with an instance before that of the other
pub less_by_instance : (system : System) (m : Marking) (depth : ℕ) (b c : Binding) (n k : ℕ) →
    Enabled system m b depth → Enabled system m c depth → HasStartIn n b → HasStartIn k c → n < k →
    binding_cmp b c ≢ Greater
less_by_instance system m depth b c n k enabled other (net, t, starts) (also, u, ends) less =
    let one = begins system m depth b (start_of n net t) enabled starts refl in
    let two = begins system m depth c (start_of k also u) other ends refl in
    less_at_first b c one.0 two.0 one.1.0 two.1.0 one.1.1 two.1.1
    (rw (
      ap (λ (h : Head). h.path) one.2,
      ap (λ (h : Head). h.path) two.2,
      ap (λ (h : Head). h.inst) one.2,
      ap (λ (h : Head). h.inst) two.2,
      less_number n k less,
    ) refl)

-- the one starts with the same instance, by a transition before that of the other
pub less_by_transition : (system : System) (m : Marking) (depth : ℕ) (b c : Binding)
    (number net t u : ℕ) → Enabled system m b depth → Enabled system m c depth →
    StartsAt b (start_of number net t) → StartsAt c (start_of number net u) → t < u →
    binding_cmp b c ≢ Greater
less_by_transition system m depth b c number net t u enabled other starts ends less =
    let one = begins system m depth b (start_of number net t) enabled starts refl in
    let two = begins system m depth c (start_of number net u) other ends refl in
    less_at_first b c one.0 two.0 one.1.0 two.1.0 one.1.1 two.1.1
    (rw (
      ap (λ (h : Head). h.path) one.2,
      ap (λ (h : Head). h.path) two.2,
      ap (λ (h : Head). h.inst) one.2,
      ap (λ (h : Head). h.inst) two.2,
      ap (λ (h : Head). h.net) one.2,
      ap (λ (h : Head). h.net) two.2,
      ap (λ (h : Head). h.transition) one.2,
      ap (λ (h : Head). h.transition) two.2,
      tied number,
      tied net,
      less_number t u less,
    ) refl)

-- nodes of one start are ordered by their values
pub by_values : (x y : Node) (number net t : ℕ) → head_of x ≡ start_of number net t →
    head_of y ≡ start_of number net t → node_cmp x y ≡ slice_cmp value_cmp x.values y.values
by_values x y number net t one two = rw (
  ap (λ (h : Head). h.path) one,
  ap (λ (h : Head). h.path) two,
  ap (λ (h : Head). h.inst) one,
  ap (λ (h : Head). h.inst) two,
  ap (λ (h : Head). h.net) one,
  ap (λ (h : Head). h.net) two,
  ap (λ (h : Head). h.transition) one,
  ap (λ (h : Head). h.transition) two,
  tied number,
  tied net,
  tied t,
) refl

-- none, as a list
pub none_first : (system : System) (m : Marking) (depth : ℕ) (Of : Binding → Type 0) →
    AreJust system m depth Of [] → IsFirstOf system m depth Of None
none_first system m depth Of just = λ b enabled of. not_in_nil b (just.all b enabled of)

-- where none starts by a transition before, the first by one is the first with the instance
pub first_with_instance : (system : System) (m : Marking) (depth number net t : ℕ)
    (b : Binding) → net_of m number ≡ Some net →
    AreJust system m depth (HasStartBelow number net t) [] →
    IsFirstOf system m depth (λ b. StartsAt b (start_of number net t)) (Some b) →
    IsFirstOf system m depth (HasStartIn number) (Some b)
first_with_instance system m depth number net t b is before (enabled, starts, least) = (
  enabled,
  (net, t, starts),
  λ c other (also, u, ends).
      let of_net : StartsAt c (start_of number net u)
      = subst (λ n. StartsAt c (start_of number n u))
      (one_net system m depth c number also net u other is ends) ends in
      ⊎_elim
      (λ (less : u < t). absurd (not_in_nil c (before.all c other (u, less, of_net))))
      (λ (from : t ≤ u). ⊎_elim
      (λ (more : t < u). less_by_transition system m depth b c number net t u enabled other starts
      of_net more)
      (λ (up_to : u ≤ t).
      let same : u ≡ t = omega arith in
      least c other (subst (λ v. StartsAt c (start_of number net v)) same of_net))
      (less_or_not t u))
      (less_or_not u t),
)

module _ (system : System) (uplinks : Uplinks) (table : Kept) (depth : ℕ)
    (searched : IsSearchable system uplinks table) where
  -- where none starts with an instance before, the first with one is the first of all
  pub first_of_all : (from number : ℕ) (b : Binding) →
      find (λ n. nat_le from n) table.starting ≡ Some number →
      AreJust system table.marking depth (HasStartBefore from) [] →
      IsFirstOf system table.marking depth (HasStartIn number) (Some b) →
      IsFirstOf system table.marking depth (λ b. ⊤) (Some b)
  first_of_all from number b next before (enabled, starts, least) = (
    enabled,
    tt,
    λ c other any.
        let at = starts_in system table.marking depth c other in
        ⊎_elim
        (λ (less : at.0 < from). absurd (not_in_nil c (before.all c other (at.0, less, at.1))))
        (λ (later : from ≤ at.0).
        let up = before_first system uplinks table from number at.0 searched next
        (starts_among system uplinks table depth searched c at.0 other at.1) later in
        ⊎_elim
        (λ (more : number < at.0). less_by_instance system table.marking depth b c number at.0 enabled
        other starts at.1 more)
        (λ (up_to : at.0 ≤ number).
        let same : at.0 ≡ number = omega arith in
        least c other (subst (λ n. HasStartIn n c) same at.1))
        (less_or_not number at.0))
        (less_or_not at.0 from),
  )

-- what the first of all bindings says
pub least_of_all : (system : System) (m : Marking) (depth : ℕ) (found : Option Binding) →
    IsFirstOf system m depth (λ b. ⊤) found →
    IfSome found (λ b. Enabled system m b depth
    × ((c : Binding) → Enabled system m c depth → binding_cmp b c ≢ Greater))
least_of_all system m depth None first = tt
least_of_all system m depth (Some b) (enabled, any, least) =
    (enabled, λ c other. least c other tt)

-- there is no first of all exactly where no binding is enabled
pub none_of_all : (system : System) (m : Marking) (depth : ℕ) (found : Option Binding) →
    IsFirstOf system m depth (λ b. ⊤) found → IsNone found ↔ DeadAt system m depth
none_of_all system m depth None first = (λ is b enabled. first b enabled tt, λ dead. refl)
none_of_all system m depth (Some b) (enabled, any, least) =
    (λ is. absurd (let no : ⊥ = cc in no), λ dead. absurd (dead b enabled))
