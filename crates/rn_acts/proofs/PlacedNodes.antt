-- Where a node stands under the numbers of new instances, a table with these has the instance, with
-- the places of the node's net.
use Rattle.std.proofs.Common.{◌≡◌, ℕ, zero, suc, ◌+◌, ◌<◌, true, false, cond, List, [], ◌∷◌, get_or, length, map, refl, sym, ap, ◌∙◌, subst, arith}
use Rattle.std.specs.Prelude.{◌&&◌, Option, Some, None, Contains, nat_eq, position, slice_get}
use Rattle.std.specs.Option.{option_map_or}
use Rattle.std.specs.List.{enumerate_from}
use Rattle.std.specs.Cmp.Lexicographic.{pointwise}
use Rattle.std.proofs.lemmas.Bool.{eqb-true}
use Rattle.std.proofs.lemmas.List.{length-map}
use Rattle.std.proofs.lemmas.List.Elements.{All-contains, All-weaker, recursion_from_All, Contains-get_or}
use Rattle.std.proofs.lemmas.List.Quantifiers.{position-Some}
use Rattle.std.proofs.lemmas.Option.{same_Some, slice_get-get_or}
use Rattle.rn_items.proofs.Numbers.{same_numbers}
use Rattle.rn_items.proofs.Bools.{both_true}
use Rattle.rn_value.proofs.Variants.{same_old}
use Rattle.rn_value.specs.declared.value.InstRef.{InstRef}
use Rattle.rn_value.specs.declared.value.InstRef.TheVariants.{Old, New}
use Rattle.rn_model.specs.declared.system.System.{System}
use Rattle.rn_model.specs.declared.binding.Node.{Node}
use Rattle.rn_model.specs.declared.binding.Binding.{Binding}
use Rattle.rn_model.specs.Good.{Good, IsGoodArc}
use Rattle.rn_model.specs.Systems.{net_at, transition_of, var_kind_in}
use Rattle.rn_model.specs.Bindings.{IsNodeOf, IsOfCreation, node_at}
use Rattle.rn_model.specs.Markings.{Marking, Instance, IsMarking, instance_at, net_of, fresh_instance}
use Rattle.rn_model.specs.Enabling.{Enabled}
use Rattle.rn_model.specs.Firing.{Made, creations_of, made_by, named, numbered_inst}
use Rattle.rn_model.proofs.AskedValues.{map_source, flat_source}
use Rattle.rn_model.proofs.DeadInstances.{there_of_net}
use Rattle.rn_model.proofs.IndicesInLists.{from_enumerated}
use Rattle.rn_model.proofs.MarkingsOfRuns.{good_transition, found_is_there}
use Rattle.rn_model.proofs.NodesByPath.{node_at-path}
use Rattle.rn_table.proofs.InstanceLemmas.{all_lower, numbered_kept, numbered_later}
use Rattle.rn_table.specs.Changes.{ArePlaced, new_from, with_made}
use Rattle.rn_table.specs.link.Leaves.{numbered}
use Rattle.rn_table.specs.declared.change.Row.{Row}
use Rattle.rn_acts.specs.Acted.{AreOfArcs, IsOfArc}
use Rattle.rn_acts.proofs.AskedFrom.{numbered_from}

-- the new instance of a number
new_at : (system : System) (next : ℕ) (nets : List ℕ) (k net : ℕ) → slice_get nets k ≡ Some net →
    numbered (next + k) (new_from system next nets) ≡ Some (fresh_instance system (next + k) net)
new_at system next [] k net e = absurd (let no : ⊥ = cc in no)
new_at system next (n ∷ nets) zero net e =
    let same : n ≡ net = cc in
    let number : next + 0 ≡ next = omega arith in
    let first : nat_eq next (next + 0) ≡ true = grind arith in
    ap (λ here. cond here (Some (fresh_instance system next n)) (numbered (next + 0) (new_from system (next + 1) nets))) first
    ∙ ap (λ n. Some (fresh_instance system next n)) same
    ∙ ap (λ k. Some (fresh_instance system k net)) (sym number)
new_at system next (n ∷ nets) (suc k) net e =
    let number : next + suc k ≡ (next + 1) + k = omega arith in
    let other : nat_eq next (next + suc k) ≡ false = grind arith in
    ap (λ here. cond here (Some (fresh_instance system next n)) (numbered (next + suc k) (new_from system (next + 1) nets))) other
    ∙ ap (λ j. numbered j (new_from system (next + 1) nets)) number
    ∙ new_at system (next + 1) nets k net e
    ∙ ap (λ j. Some (fresh_instance system j net)) (sym number)

mapped_at : {X Y : Type 0} (f : X → Y) (xs : List X) (k : ℕ) (x : X) → slice_get xs k ≡ Some x →
    slice_get (map f xs) k ≡ Some (f x)
mapped_at f [] k x e = absurd (let no : ⊥ = cc in no)
mapped_at f (y ∷ xs) zero x e = let same : y ≡ x = cc in ap (λ z. Some (f z)) same
mapped_at f (y ∷ xs) (suc k) x e = mapped_at f xs k x e

module _ (system : System) (m : Marking) (b : Binding) (depth : ℕ) (good : Good system)
    (form : IsMarking system m) (enabled : Enabled system m b depth) where
  abbrev made : List Made
  made = creations_of system b

  abbrev nets : List ℕ
  nets = map (λ c. c.net) made

  abbrev full : Marking
  full = with_made system nets m

  -- an instance of this number and with the places of this net
  abbrev HasPlacesOf : ℕ → ℕ → Type 0
  HasPlacesOf n net =
      (i : Instance) × (instance_at full n ≡ Some i)
      × (length i.places ≡ length (net_at system net).places)

  old_placed : (node : Node) (k : ℕ) → Contains b.nodes node → node.inst ≡ Old k →
      HasPlacesOf k node.net
  old_placed node k there is =
      let net = All-contains (λ node. (n : ℕ) → node.inst ≡ Old n → net_of m n ≡ Some node.net) b.nodes node enabled.fits.there there k is in
      let found = there_of_net m k node.net net in
      let listed = found_is_there (λ i. nat_eq i.number k) m.instances found.0 found.1 in
      let placed = All-contains (λ i. (i.net < length system.nets) × (length i.places ≡ length (net_at system i.net).places)) m.instances found.0 form.placed listed in (
        found.0,
        numbered_kept k m.instances (new_from system m.next nets) found.0 found.1,
        placed.1 ∙ ap (λ n. length (net_at system n).places) found.2,
      )

  -- the creation of a new instance is of the net of each node that stands on it
  created_net : (node : Node) (path : List ℕ) (j k : ℕ) → Contains b.nodes node →
      node.inst ≡ New path j →
      position (λ c. pointwise nat_eq c.path path && nat_eq c.index j) made ≡ Some k →
      slice_get nets k ≡ Some node.net
  created_net node path j k there inst e =
      let d : Made = record { path = path; index = j; net = 0 } in
      let at = position-Some (λ c. pointwise nat_eq c.path path && nat_eq c.index j) made k d e in
      let c = get_or made k d in
      let both = both_true (pointwise nat_eq c.path path) (nat_eq c.index j) at.1 in
      let by = flat_source (made_by system) b.nodes c (Contains-get_or made k d at.0) in
      let from = map_source (λ c. let r : Made = record { path = by.0.path; index = c.0; net = c.1.net } in r) (enumerate_from 0 (transition_of system by.0).creations) c by.2 in
      let creation = from_enumerated 0 (transition_of system by.0).creations from.0 from.1 in
      let created = All-contains (IsOfCreation system b) b.nodes node enabled.shape.created there path j inst in
      let path_is : by.0.path ≡ path = ap (λ (c : Made). c.path) from.2 ∙ same_numbers c.path path both.0 in
      let maker : created.0 ≡ by.0 = same_Some created.0 by.0 (sym created.2 ∙ ap (node_at b) (sym path_is) ∙ node_at-path system b depth by.0 enabled.shape by.1) in
      let index_is : from.0.0 ≡ j = ap (λ (c : Made). c.index) from.2 ∙ eqb-true c.index j both.1 in
      let index_too : creation.0 ≡ j = let of = creation.1 in omega (arith, of, index_is) in
      let here : slice_get (transition_of system by.0).creations j ≡ Some from.0.1 = ap (λ k. slice_get (transition_of system by.0).creations k) (sym index_too) ∙ creation.2 in
      let also : slice_get (transition_of system by.0).creations j ≡ Some created.1 = ap (λ w. slice_get (transition_of system w).creations j) (sym maker) ∙ created.3 in
      let same : created.1 ≡ from.0.1 = same_Some created.1 from.0.1 (sym also ∙ here) in
      let net : node.net ≡ c.net = created.4 ∙ ap (λ w. w.net) same ∙ ap (λ (w : Made). w.net) from.2 in
      mapped_at (λ (c : Made). c.net) made k c (slice_get-get_or made k d at.0) ∙ ap Some (sym net)

  new_placed : (node : Node) (path : List ℕ) (j n : ℕ) (o : Option ℕ) → Contains b.nodes node →
      node.inst ≡ New path j →
      position (λ c. pointwise nat_eq c.path path && nat_eq c.index j) made ≡ o →
      option_map_or (λ k. Old (m.next + k)) o (New path j) ≡ Old n → HasPlacesOf n node.net
  new_placed node path j n None there inst at e = absurd (let no : ⊥ = cc in no)
  new_placed node path j n (Some k) there inst at e =
      let number : m.next + k ≡ n = same_old (m.next + k) n e in
      let new = fresh_instance system (m.next + k) node.net in
      let below = recursion_from_All (λ i. i.number < m.next + k) m.instances
      (All-weaker (λ i. (0 < i.number) × (i.number < m.next)) (λ i. i.number < m.next + k) (λ i low. let below = low.1 in omega (arith, below)) m.instances form.numbered) in
      let found : instance_at full (m.next + k) ≡ Some new =
      numbered_later (m.next + k) m.instances (new_from system m.next nets) (all_lower (m.next + k) m.instances below)
      ∙ new_at system m.next nets k node.net (created_net node path j k there inst at) in (
        new,
        subst (λ j. instance_at full j ≡ Some new) number found,
        length-map (net_at system node.net).places _,
      )

  inst_placed : (node : Node) (inst : InstRef) (n : ℕ) → Contains b.nodes node → node.inst ≡ inst →
      numbered_inst made m.next inst ≡ Old n → HasPlacesOf n node.net
  inst_placed node (Old k) n there is e =
      subst (λ j. HasPlacesOf j node.net) (same_old k n e) (old_placed node k there is)
  inst_placed node (New path j) n there is e =
      new_placed node path j n (position (λ c. pointwise nat_eq c.path path && nat_eq c.index j) made)
      there is refl e

  row_placed : (row : Row) → IsOfArc system (named system b m.next).nodes row →
      (i : Instance) × (instance_at full row.inst ≡ Some i) × (row.place < length i.places)
  row_placed row of =
      let from = numbered_from system b m.next of.node of.there in
      let first = from.first in
      let own : IsNodeOf system first = All-contains (IsNodeOf system) b.nodes first enabled.shape.nodes from.there in
      let t = good_transition system first.net first.transition good own.net own.transition in
      let arc_there : Contains (transition_of system first).arcs of.arc = subst (λ n. Contains (transition_of system n).arcs of.arc) (sym from.is) of.arc_there in
      let arc = All-contains (IsGoodArc (net_at system first.net) (var_kind_in (net_at system first.net))) (transition_of system first).arcs of.arc t.kinds.arcs arc_there in
      let stands : numbered_inst made m.next first.inst ≡ Old row.inst = ap (λ n. n.inst) from.is ∙ of.stands in
      let placed = inst_placed first first.inst row.inst from.there refl stands in
      let low = arc.place in
      let many = placed.2 in
      let same = of.place in
      (placed.0, placed.1, omega (arith, low, many, same))

  -- rows at places that arcs name are placed
  pub rows_placed : (rows : List Row) → AreOfArcs system (named system b m.next).nodes rows →
      ArePlaced full rows
  rows_placed rows of =
      All-weaker (IsOfArc system (named system b m.next).nodes)
      (λ row. (i : Instance) × (instance_at full row.inst ≡ Some i) × (row.place < length i.places))
      row_placed rows of
