-- The nodes of an enabled binding that stand on an instance once new ones have their numbers.
use Rattle.std.proofs.Common.{◌≡◌, ℕ, ◌+◌, ◌<◌, List, get_or, refl, sym, ap, ◌∙◌, arith}
use Rattle.std.specs.Prelude.{Option, Some, None, Contains, nat_eq, position, slice_get}
use Rattle.std.specs.Prelude.{◌&&◌}
use Rattle.std.specs.Option.{option_map_or}
use Rattle.std.specs.List.{AllByRecursion, enumerate_from}
use Rattle.std.specs.Cmp.Lexicographic.{pointwise}
use Rattle.std.proofs.lemmas.Bool.{eqb-true}
use Rattle.std.proofs.lemmas.List.Elements.{All-contains}
use Rattle.std.proofs.lemmas.List.Quantifiers.{position-Some}
use Rattle.std.proofs.lemmas.Option.{same_Some, slice_get-get_or}
use Rattle.rn_items.proofs.Bools.{both_true}
use Rattle.rn_items.proofs.Numbers.{same_numbers}
use Rattle.rn_value.proofs.Variants.{same_old}
use Rattle.rn_value.specs.declared.value.InstRef.{InstRef}
use Rattle.rn_value.specs.declared.value.InstRef.TheVariants.{Old, New}
use Rattle.rn_model.specs.declared.system.System.{System}
use Rattle.rn_model.specs.declared.binding.Node.{Node}
use Rattle.rn_model.specs.declared.binding.Binding.{Binding}
use Rattle.rn_model.specs.Systems.{net_at, transition_of, capacity}
use Rattle.rn_model.specs.Bindings.{IsNodeOf, IsOfCreation, node_at}
use Rattle.rn_model.specs.Markings.{Marking, IsMarking, net_of}
use Rattle.rn_model.specs.Enabling.{Enabled}
use Rattle.rn_model.specs.Firing.{Made, made_by, creations_of, numbered_inst}
use Rattle.rn_model.specs.Good.{Good, IsGoodTransition}
use Rattle.rn_model.proofs.AskedValues.{map_source, flat_source, got_contained}
use Rattle.rn_model.proofs.DeadInstances.{below_next, there_of_net}
use Rattle.rn_model.proofs.FilledPlaces.{ComesFrom}
use Rattle.rn_model.proofs.IndicesInLists.{from_enumerated}
use Rattle.rn_model.proofs.MarkingsOfRuns.{good_transition}
use Rattle.rn_model.proofs.NodesByPath.{node_at-path}
use Rattle.rn_model.proofs.ReadConditions.{each_in}

module _ (system : System) (m : Marking) (b : Binding) (depth : ℕ) (good : Good system)
    (is : IsMarking system m) (enabled : Enabled system m b depth) where
  abbrev made : List Made
  made = creations_of system b

  abbrev name : InstRef → InstRef
  name = numbered_inst made m.next

  good_of : (node : Node) → Contains b.nodes node →
      IsGoodTransition system (net_at system node.net) (transition_of system node)
  good_of node there =
      let of : IsNodeOf system node =
      All-contains (IsNodeOf system) b.nodes node enabled.shape.nodes there in
      good_transition system node.net node.transition good of.net of.transition

  net_there : (node : Node) → Contains b.nodes node → (n : ℕ) → node.inst ≡ Old n →
      net_of m n ≡ Some node.net
  net_there node there =
      All-contains (λ node. (n : ℕ) → node.inst ≡ Old n → net_of m n ≡ Some node.net) b.nodes node
      enabled.fits.there there

  below : (n net : ℕ) → net_of m n ≡ Some net → n < m.next
  below n net there =
      let found = there_of_net m n net there in below_next system m n is (found.0, found.1)

  -- An instance that was there: no new one gets its number.
  module _ (n net place most : ℕ) (there : net_of m n ≡ Some net)
      (has : capacity system net place ≡ Some most) where
    stands_old : (inst : InstRef) → name inst ≡ Old n → inst ≡ Old n
    stands_old (Old k) e = e
    stands_old (New path j) e =
        by (position (λ c. pointwise nat_eq c.path path && nat_eq c.index j) made) e
      where
        by : (o : Option ℕ) → option_map_or (λ k. Old (m.next + k)) o (New path j) ≡ Old n →
            New path j ≡ Old n
        by None e = e
        by (Some k) e =
            let number = same_old (m.next + k) n e in
            let low = below n net there in
            absurd (let no : ⊥ = omega (arith, number, low) in no)

    pub old_comes : AllByRecursion
        (ComesFrom system (numbered_inst (creations_of system b) m.next) (Old n) n place most)
        b.nodes
    old_comes = each_in (ComesFrom system name (Old n) n place most) b.nodes (λ node at. record {
      good = good_of node at;
      stands = stands_old node.inst;
      has = λ on.
          let same = same_Some node.net net (sym (net_there node at n on) ∙ there) in
          ap (λ k. capacity system k place) same ∙ has;
    })

  -- An instance that a creation makes: no other instance gets its number.
  module _ (k : ℕ) (c : Made) (at : slice_get made k ≡ Some c) where
    -- the creation with this path and index is the one that gets the number
    is_made : (path : List ℕ) (j i : ℕ) →
        position (λ c. pointwise nat_eq c.path path && nat_eq c.index j) made ≡ Some i → i ≡ k →
        New path j ≡ New c.path c.index
    is_made path j i e same =
        let first = position-Some (λ c. pointwise nat_eq c.path path && nat_eq c.index j) made i c e
        in
        let own : get_or made i c ≡ c =
        same_Some (get_or made i c) c
        (sym (slice_get-get_or made i c first.0) ∙ ap (slice_get made) same ∙ at) in
        let passes = ap (λ c. pointwise nat_eq c.path path && nat_eq c.index j) (sym own) ∙ first.1
        in
        let both = both_true (pointwise nat_eq c.path path) (nat_eq c.index j) passes in
        ap (λ p. New p j) (sym (same_numbers c.path path both.0))
        ∙ ap (λ i. New c.path i) (sym (eqb-true c.index j both.1))

    stands_made : (node : Node) (inst : InstRef) → Contains b.nodes node → node.inst ≡ inst →
        name inst ≡ Old (m.next + k) → inst ≡ New c.path c.index
    stands_made node (Old j) there on e =
        let number = same_old j (m.next + k) e in
        let low = below j node.net (net_there node there j on) in
        absurd (let no : ⊥ = omega (arith, number, low) in no)
    stands_made node (New path j) there on e =
        by (position (λ c. pointwise nat_eq c.path path && nat_eq c.index j) made) refl e
      where
        by : (o : Option ℕ) →
            position (λ c. pointwise nat_eq c.path path && nat_eq c.index j) made ≡ o →
            option_map_or (λ i. Old (m.next + i)) o (New path j) ≡ Old (m.next + k) →
            New path j ≡ New c.path c.index
        by None at e = absurd (let no : ⊥ = cc in no)
        by (Some i) at e =
            let number = same_old (m.next + i) (m.next + k) e in
            is_made path j i at (omega (arith, number))

    -- a node that stands on it is of its net
    made_net : (node : Node) → Contains b.nodes node → node.inst ≡ New c.path c.index →
        node.net ≡ c.net
    made_net node there on =
        let created = All-contains (IsOfCreation system b) b.nodes node enabled.shape.created there
        c.path c.index on in
        let by = flat_source (made_by system) b.nodes c (got_contained made k c at) in
        let creations = (transition_of system by.0).creations in
        let from = map_source (λ c. record { path = by.0.path; index = c.0; net = c.1.net })
        (enumerate_from 0 creations) c by.2 in
        let creation = from_enumerated 0 creations from.0 from.1 in
        let maker : created.0 ≡ by.0 =
        same_Some created.0 by.0
        (sym created.2 ∙ ap (λ c. node_at b c.path) (sym from.2)
        ∙ node_at-path system b depth by.0 enabled.shape by.1) in
        let index : creation.0 ≡ c.index =
        let first = creation.1 in let own = ap (λ c. c.index) from.2 in omega (arith, first, own) in
        let here : slice_get creations c.index ≡ Some from.0.1 =
        ap (slice_get creations) (sym index) ∙ creation.2 in
        let also : slice_get creations c.index ≡ Some created.1 =
        ap (λ w. slice_get (transition_of system w).creations c.index) (sym maker) ∙ created.3 in
        let same : created.1 ≡ from.0.1 = same_Some created.1 from.0.1 (sym also ∙ here) in
        created.4 ∙ ap (λ w. w.net) same ∙ ap (λ c. c.net) from.2

    pub made_comes : (place most : ℕ) → capacity system c.net place ≡ Some most →
        AllByRecursion
        (ComesFrom system (numbered_inst (creations_of system b) m.next) (New c.path c.index)
        (m.next + k) place most) b.nodes
    made_comes place most has =
        each_in (ComesFrom system name (New c.path c.index) (m.next + k) place most) b.nodes
        (λ node there. record {
          good = good_of node there;
          stands = stands_made node node.inst there refl;
          has = λ on. ap (λ n. capacity system n place) (made_net node there on) ∙ has;
        })
