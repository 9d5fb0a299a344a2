-- What decisions take is among what the binding takes.
use Rattle.std.proofs.Common.{◌≡◌, ℕ, zero, suc, ◌+◌, ◌≤◌, Bool, true, false, List, [], ◌∷◌, ◌++◌}
use Rattle.std.proofs.Common.{map, refl, sym, ap, ◌∙◌, subst, inl, inr, arith}
use Rattle.std.specs.Prelude.{Some, slice_get, Contains, filter, flat_map, nat_eq}
use Rattle.std.specs.Prelude.{if◌then◌else◌}
use Rattle.std.specs.List.{enumerate_from}
use Rattle.std.specs.Option.{option_map_or}
use Rattle.std.specs.Ordering.{is_eq}
use Rattle.std.proofs.lemmas.List.Elements.{Contains-append_cases, Contains-append_left}
use Rattle.std.proofs.lemmas.List.Elements.{Contains-append_right}
use Rattle.rn_value.specs.Order.{inst_cmp}
use Rattle.rn_value.specs.declared.value.InstRef.{InstRef}
use Rattle.rn_value.specs.declared.value.Value.{Value}
use Rattle.rn_model.specs.declared.expr.Expr.{Expr}
use Rattle.rn_model.specs.declared.system.System.{System}
use Rattle.rn_model.specs.declared.system.NetArc.{NetArc}
use Rattle.rn_model.specs.declared.binding.Node.{Node}
use Rattle.rn_model.specs.declared.binding.Binding.{Binding}
use Rattle.rn_model.specs.Lists.{count_of}
use Rattle.rn_model.specs.Systems.{transition_of}
use Rattle.rn_model.specs.Bindings.{env_of}
use Rattle.rn_model.specs.Demands.{Reading, takes, asked_by_arc, asked_by_node, asked_at, readings}
use Rattle.rn_model.specs.Derivation.{Item, entry, found, computed, items_of, node_items}
use Rattle.rn_model.specs.Derivation.{finds_values, computed_at, sites_of, Site, Hole}
use Rattle.rn_model.specs.Derivation.{holes_in}
use Rattle.rn_model.proofs.EnablingLemmas.{not_in_nil}
use Rattle.rn_model.proofs.ListsWithoutRepeats.{Once}
use Rattle.rn_model.proofs.ValueLists.{count_of-cons, ordered_values_stay}
use Rattle.rn_growing.specs.declared.decision.Decision.{Decision}
use Rattle.rn_growing.specs.declared.decision.Decision.TheVariants.{Entered, Found, Computed}
use Rattle.rn_growing.specs.Decisions.{transition_in, AreOn}
use Rattle.rn_growing.proofs.Followers.{On, followers_are_decided}
use Rattle.rn_growing.proofs.SoundItems.{items_sound}
use Rattle.rn_search.specs.Taking.{takes_here, taken_by, taken_so_far, TakenAreThere}
use Rattle.std.proofs.lemmas.Bool.{eq-eqb}
use Rattle.std.proofs.lemmas.Option.{slice_get_within}
use Rattle.rn_model.specs.Demands.{elements}
use Rattle.rn_model.proofs.AskedValues.{inst_itself, contained_mapped}
use Rattle.rn_growing.proofs.Growth.{at_in, only_one}
use Rattle.rn_search.specs.Missing.{IsKnown}
use Rattle.rn_search.specs.Taking.{KnownListsAreThere}
use Rattle.rn_search.proofs.Following.{entered_node}
use Rattle.rn_search.proofs.Known.{known_is_so}
use Rattle.rn_search.proofs.Offered.{tokens_there}

count_append : (w : Value) (xs ys : List Value) →
    count_of w (xs ++ ys) ≡ count_of w xs + count_of w ys
count_append w [] ys = omega arith
count_append w (x ∷ xs) ys =
    let whole = count_of-cons w x (xs ++ ys) in
    let part = count_of-cons w x xs in
    let rest = count_append w xs ys in
    omega (arith, whole, part, rest)

-- Of lists of which one is without repeats and within the other, what they give in all.
module _ {X : Type 0} (f : X → List Value) (w : Value) where
  abbrev total : List X → ℕ
  total xs = count_of w (flat_map f xs)

  total_append : (xs ys : List X) → total (xs ++ ys) ≡ total xs + total ys
  total_append [] ys = omega arith
  total_append (x ∷ xs) ys =
      let rest = total_append xs ys in
      let whole = count_append w (f x) (flat_map f (xs ++ ys)) in
      let part = count_append w (f x) (flat_map f xs) in
      omega (arith, rest, whole, part)

  split : (ys : List X) (x : X) → Contains ys x →
      (front back : List X) × (ys ≡ front ++ x ∷ back)
  split [] x there = absurd (not_in_nil x there)
  split (y ∷ ys) x (zero, h, e) = ([], ys, ap (λ z. z ∷ ys) e)
  split (y ∷ ys) x (suc k, h, e) =
      let rest = split ys x (k, omega (arith, h), e) in
      (y ∷ rest.0, rest.1, ap (λ zs. y ∷ zs) rest.2)

  other_part : (front back : List X) (x z : X) → Contains (front ++ x ∷ back) z →
      (x ≡ z → ⊥) → Contains (front ++ back) z
  other_part front back x z there differ =
      elim (Contains-append_cases front (x ∷ back) z there) as (λ _. Contains (front ++ back) z) [
        | inl before ↦ Contains-append_left front back z before
        | inr (zero, h, e) ↦ absurd (differ e)
        | inr (suc k, h, e) ↦ Contains-append_right front back z (k, omega (arith, h), e)
      ]

  abbrev Among : List X → List X → Type 0
  Among xs ys = (k : ℕ) (z : X) → slice_get xs k ≡ Some z → Contains ys z

  total_within : (xs ys : List X) → Among xs ys → Once xs → total xs ≤ total ys
  total_within [] ys among once = omega arith
  total_within (x ∷ xs) ys among once =
      let parts = split ys x (among 0 x refl) in
      let front = parts.0 in
      let back = parts.1 in
      let rest = total_within xs (front ++ back)
      (λ k z at. other_part front back x z
      (subst (λ zs. Contains zs z) parts.2 (among (suc k) z at))
      (λ same.
      let never : 0 ≡ suc k = once 0 (suc k) z (ap Some same) at in
      let no : ⊥ = omega (arith, never) in no))
      (λ j k z at also.
      let same : suc j ≡ suc k = once (suc j) (suc k) z at also in omega (arith, same)) in
      let mine = count_append w (f x) (flat_map f xs) in
      let both = total_append front back in
      let whole = total_append front (x ∷ back) in
      let last = count_append w (f x) (flat_map f back) in
      let is : total ys ≡ total (front ++ x ∷ back) = ap total parts.2 in
      omega (arith, rest, mine, both, whole, last, is)

module _ (system : System) (inst : InstRef) (place : ℕ) where
  -- what an item takes of the place
  abbrev asked_item : Item → List Value
  asked_item (found node k x) =
      if is_eq (inst_cmp node.inst inst) then asked_by_arc takes (env_of system node) place x
      else []
  asked_item _ = []

  asked_as_taken : (b : Binding) (d : Decision) (item : Item) → On system b d item →
      taken_by system inst place d ≡ asked_item item
  asked_as_taken b (Found head k v) (found node j x) on =
      let at : slice_get (transition_in system head).arcs k ≡ Some x =
      ap (λ h. slice_get (transition_in system h).arcs k) on.1.0
      ∙ ap (slice_get (transition_of system node).arcs) on.1.1
      ∙ (items_sound system b (found node j x) on.0).1 in
      let own : asked_by_arc takes (env_of system node) place x ≡ takes_here system inst place
      v x =
      ap (λ o. if nat_eq x.place place then option_map_or (takes x.kind) o [] else []) on.1.2 in
      ap (λ h. if is_eq (inst_cmp h.inst inst) then
      option_map_or (takes_here system inst place v) (slice_get (transition_in system
      head).arcs k) []
      else []) on.1.0
      ∙ ap (λ o. if is_eq (inst_cmp node.inst inst) then
      option_map_or (takes_here system inst place v) o [] else []) at
      ∙ ap (λ vs. if is_eq (inst_cmp node.inst inst) then vs else []) (sym own)
  asked_as_taken b (Entered head caller) (entry node) on = refl
  asked_as_taken b (Computed head site way v) (computed node s hole) on = refl
  asked_as_taken b (Entered head caller) (found node k x) on = absurd on.1
  asked_as_taken b (Entered head caller) (computed node s hole) on = absurd on.1
  asked_as_taken b (Found head k v) (entry node) on = absurd on.1
  asked_as_taken b (Found head k v) (computed node s hole) on = absurd on.1
  asked_as_taken b (Computed head site way v) (entry node) on = absurd on.1
  asked_as_taken b (Computed head site way v) (found node k x) on = absurd on.1

  all_as_taken : (b : Binding) (ds : List Decision) (items : List Item) → AreOn system b ds items →
      taken_so_far system inst place ds ≡ flat_map asked_item items
  all_as_taken b [] [] on = refl
  all_as_taken b [] (item ∷ items) on = absurd on
  all_as_taken b (d ∷ ds) [] on = absurd on
  all_as_taken b (d ∷ ds) (item ∷ items) on =
      ap (λ vs. vs ++ taken_so_far system inst place ds) (asked_as_taken b d item on.0)
      ∙ ap (λ vs. asked_item item ++ vs) (all_as_taken b ds items on.1)

  module _ (w : Value) where
    abbrev sum : List Item → ℕ
    sum items = total asked_item w items

    -- operator applications take nothing
    no_hole : (node : Node) (site : Site) (holes : List Hole) →
        flat_map asked_item (map (computed node site) holes) ≡ []
    no_hole node site [] = refl
    no_hole node site (hole ∷ holes) = no_hole node site holes

    no_holes : (node : Node) (sites : List (Site × Expr)) →
        sum (flat_map (computed_at node) sites) ≡ 0
    no_holes node [] = refl
    no_holes node (s ∷ sites) =
        let rest = no_holes node sites in
        let whole = total_append asked_item w (computed_at node s)
        (flat_map (computed_at node) sites) in
        let none : sum (computed_at node s) ≡ 0 =
        ap (count_of w) (no_hole node s.0 (holes_in s.1)) in
        omega (arith, rest, whole, none)

    -- what arcs find takes no more than all arcs
    abbrev founds_of : Node → List (ℕ × NetArc) → List Item
    founds_of node es = map (λ e. found node e.0 e.1) (filter (λ e. finds_values e.1.kind) es)

    one_found : (keeps : Bool) (node : Node) (e : ℕ × NetArc) (kept : List (ℕ × NetArc))
        (rest : ℕ) → sum (map (λ e. found node e.0 e.1) kept) ≤ rest →
        sum (map (λ e. found node e.0 e.1) (if keeps then e ∷ kept else kept))
        ≤ count_of w (asked_item (found node e.0 e.1)) + rest
    one_found true node e kept rest few =
        let whole = count_append w (asked_item (found node e.0 e.1))
        (flat_map asked_item (map (λ e. found node e.0 e.1) kept)) in
        omega (arith, few, whole)
    one_found false node e kept rest few = omega (arith, few)

    founds_within : (node : Node) (n : ℕ) (arcs : List NetArc) →
        sum (founds_of node (enumerate_from n arcs))
        ≤ count_of w (flat_map (λ x. asked_item (found node 0 x)) arcs)
    founds_within node n [] = omega arith
    founds_within node n (x ∷ arcs) =
        let rest = founds_within node (n + 1) arcs in
        let all = count_append w (asked_item (found node 0 x))
        (flat_map (λ x. asked_item (found node 0 x)) arcs) in
        let step = one_found (finds_values x.kind) node (n, x)
        (filter (λ e. finds_values e.1.kind) (enumerate_from (n + 1) arcs))
        (count_of w (flat_map (λ x. asked_item (found node 0 x)) arcs)) rest in
        omega (arith, all, step)

    abbrev reading : Node → Reading
    reading node = record { node = node; env = env_of system node }

    as_asked : (here : Bool) (node : Node) (arcs : List NetArc) →
        flat_map (λ x. if here then asked_by_arc takes (env_of system node) place x else []) arcs
        ≡ (if here then flat_map (asked_by_arc takes (env_of system node) place) arcs else [])
    as_asked true node arcs = refl
    as_asked false node [] = refl
    as_asked false node (x ∷ arcs) = as_asked false node arcs

    node_within : (node : Node) →
        sum (node_items system node)
        ≤ count_of w (asked_by_node takes system inst place (reading node))
    node_within node =
        let t = transition_of system node in
        let founds = founds_of node (enumerate_from 0 t.arcs) in
        let holes = flat_map (computed_at node) (sites_of t) in
        let whole = total_append asked_item w founds holes in
        let none = no_holes node (sites_of t) in
        let few = founds_within node 0 t.arcs in
        let same = ap (count_of w) (as_asked (is_eq (inst_cmp node.inst inst)) node t.arcs) in
        omega (arith, whole, none, few, same)

    nodes_within : (nodes : List Node) →
        sum (flat_map (node_items system) nodes)
        ≤ count_of w (flat_map (asked_by_node takes system inst place) (map reading nodes))
    nodes_within [] = omega arith
    nodes_within (node ∷ nodes) =
        let first = node_within node in
        let rest = nodes_within nodes in
        let whole = total_append asked_item w (node_items system node)
        (flat_map (node_items system) nodes) in
        let all = count_append w (asked_by_node takes system inst place (reading node))
        (flat_map (asked_by_node takes system inst place) (map reading nodes)) in
        omega (arith, first, rest, whole, all)

-- a place holds each token at least as often as the decisions take it
pub taken_are_there : TakenAreThere
taken_are_there sought ds b inst place leads turns some w =
    let system = sought.system in
    let items = leads.follows.0 in
    let on = leads.follows.1 in
    let say = followers_are_decided system b sought.depth ds items leads.enabled.shape on turns
    some
    in
    let taken = ap (count_of w) (all_as_taken system inst place b ds items on) in
    let within = total_within (asked_item system inst place) w items (items_of system b)
    say.come.each say.come.once in
    let asked = nodes_within system inst place w b.nodes in
    let same = ordered_values_stay (asked_at takes system (readings system b) inst place) w in
    let enough = (leads.enabled.fits.places inst place).enough w in
    omega (arith, taken, within, asked, same, enough)

-- what one gives is no more than what all do
one_within : {X : Type 0} (f : X → List Value) (w : Value) (xs : List X) (x : X) → Contains xs x →
    count_of w (f x) ≤ count_of w (flat_map f xs)
one_within f w xs x there =
    let part = count_append w (f x) [] in
    let single : total f w (x ∷ []) ≤ total f w xs = total_within f w (x ∷ []) xs
    (λ k z at. subst (Contains xs) (only_one x z (at_in (x ∷ []) k z at)) there)
    (λ j k z at also.
    let one = slice_get_within (x ∷ []) j z at in
    let two = slice_get_within (x ∷ []) k z also in omega (arith, one, two)) in
    omega (arith, part, single)

-- the place of a flexible arc holds each element of its known list as often as that does
pub known_lists_are_there : KnownListsAreThere
known_lists_are_there sought ds b head k x v env leads turns some entered at flex known is w =
    let system = sought.system in
    let n = entered_node system b ds leads.follows.0 leads.follows.1 head entered in
    let node = n.0 in
    let arcs = (transition_of system node).arcs in
    let there : slice_get arcs k ≡ Some x =
    subst (λ h. slice_get (transition_in system h).arcs k ≡ Some x) n.2 at in
    let same = known_is_so sought ds b node x.inscription env leads turns some n.1
    (subst (λ h. IsKnown system ds h x.inscription env) n.2 known) in
    let value = sym same ∙ is in
    let r = reading system node.inst x.place w node in
    let place : nat_eq x.place x.place ≡ true = eq-eqb x.place x.place refl in
    let asked : asked_by_arc takes (env_of system node) x.place x ≡ elements v =
    rw (place, value, flex) refl in
    let here : asked_by_node takes system node.inst x.place r
    ≡ flat_map (asked_by_arc takes (env_of system node) x.place) arcs =
    rw (inst_itself node.inst) refl in
    let one = one_within (asked_by_arc takes (env_of system node) x.place) w arcs x
    (at_in arcs k x there) in
    let mine = ap (count_of w) asked in
    let by_node = ap (count_of w) here in
    let all = one_within (asked_by_node takes system node.inst x.place) w (readings system b) r
    (contained_mapped (λ node. record { node = node; env = env_of system node }) b.nodes node
    n.1) in
    let ordered = ordered_values_stay (asked_at takes system (readings system b) node.inst
    x.place) w
    in
    let enough = (leads.enabled.fits.places node.inst x.place).enough w in
    let held = ap (count_of w) (tokens_there sought node k x there head n.2) in
    omega (arith, one, mine, by_node, all, ordered, enough, held)
