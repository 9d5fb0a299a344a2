-- An enabled binding, under the numbers of the instances that it makes, names none above the last
-- of them.
use Rattle.std.proofs.Common.{◌≡◌, ℕ, ◌+◌, ◌<◌, ◌≤◌, Bool, true, false, List, length, map, refl, sym, ap, ◌∙◌, subst, arith}
use Rattle.std.specs.Prelude.{◌&&◌, Option, Some, None, Contains, All, is_some, nat_eq, nat_le, position, slice_get, option_map}
use Rattle.std.specs.Option.{option_map_or}
use Rattle.std.specs.List.{enumerate_from}
use Rattle.std.specs.Cmp.Lexicographic.{pointwise}
use Rattle.std.proofs.lemmas.Bool.{eq-eqb}
use Rattle.std.proofs.lemmas.Bool.Decides.{nat_tests}
use Rattle.std.proofs.lemmas.List.{length-map}
use Rattle.std.proofs.lemmas.List.Elements.{All-contains, All-contains_itself, All-map, All-weaker}
use Rattle.std.proofs.lemmas.List.Quantifiers.{position-Some}
use Rattle.std.proofs.lemmas.Option.{same_Some}
use Rattle.rn_items.proofs.Numbers.{numbers_themselves}
use Rattle.rn_items.proofs.Bools.{true_both}
use Rattle.rn_value.specs.Names.{inst_within, instances_within}
use Rattle.rn_value.specs.declared.value.InstRef.{InstRef}
use Rattle.rn_value.specs.declared.value.InstRef.TheVariants.{Old, New}
use Rattle.rn_value.specs.declared.value.Value.{Value}
use Rattle.rn_model.specs.declared.system.System.{System}
use Rattle.rn_model.specs.declared.system.Creation.{Creation}
use Rattle.rn_model.specs.declared.binding.Node.{Node}
use Rattle.rn_model.specs.declared.binding.Binding.{Binding}
use Rattle.rn_model.specs.Bindings.{IsNodeOf, node_at}
use Rattle.rn_model.specs.Enabling.{Enabled}
use Rattle.rn_model.specs.Firing.{Made, creations_of, made_by, named, numbered_inst, renamed_node, renamed_value}
use Rattle.rn_model.specs.Good.{Good}
use Rattle.rn_model.specs.Liveness.{mentions}
use Rattle.rn_model.specs.Markings.{IsMarking, IsThere, Marking, net_of}
use Rattle.rn_model.specs.SoundTokens.{HasSoundTokens, holds_new}
use Rattle.rn_model.specs.Systems.{transition_of}
use Rattle.rn_model.proofs.AskedValues.{contained_flat, contained_mapped}
use Rattle.rn_model.proofs.DeadInstances.{there_of_net}
use Rattle.rn_model.proofs.DerivedInstances.{PassesOn, inst_passes, value_passes}
use Rattle.rn_model.proofs.IndicesInLists.{has_position, in_enumerated}
use Rattle.rn_model.proofs.NodesByPath.{node_at-path}
use Rattle.rn_model.proofs.PassingInstances.{names_passing, only}
use Rattle.rn_model.proofs.PutValues.{renamed_passes}
use Rattle.rn_model.proofs.NumbersOfRuns.{is_given, holder_there}
use Rattle.rn_model.proofs.InstancesWithin.{is_low, within_is_only}
use Rattle.rn_model.specs.NodeText.{IsWritable}

is_low_number : (last n : ℕ) → 0 < n → n ≤ last → is_low last (Old n) ≡ true
is_low_number last n low high =
    true_both (nat_le 1 n) (nat_le n last) (grind (arith, nat_tests)) (grind (arith, nat_tests))

-- a value whose instances are all there names none above the last
pub there_is_low : (system : System) (m : Marking) (last : ℕ) (v : Value) → IsMarking system m →
    m.next ≤ last + 1 → holds_new v ≡ false → ((n : ℕ) → mentions v n ≡ true → IsThere m n) →
    only (is_low last) v ≡ true
there_is_low system m last v is high old there =
    names_passing (is_low last) v (record {
      old = λ n said.
          let number = is_given system m n is (there n said) in
          is_low_number last n number.0 (omega (arith, number.1, high));
      new = λ path j news. let both : true ≡ false = sym news ∙ old in absurd (let no : ⊥ = cc in no);
    })

module _ (system : System) (m : Marking) (b : Binding) (depth before : ℕ) (good : Good system)
    (is : IsMarking system m) (sound : HasSoundTokens system m) (enabled : Enabled system m b depth)
    (first : before + 1 ≡ m.next) where
  abbrev made : List Made
  made = creations_of system b

  -- the last number
  abbrev last : ℕ
  last = before + length made

  abbrev name : InstRef → InstRef
  name = numbered_inst made m.next

  abbrev is_named_low : InstRef → Bool
  is_named_low i = is_low last (name i)

  there_low : (n : ℕ) → IsThere m n → is_named_low (Old n) ≡ true
  there_low n there =
      let number = is_given system m n is there in
      is_low_number last n number.0 (omega (arith, number.1, first))

  abbrev is_made_at : List ℕ → ℕ → Made → Bool
  is_made_at path j = λ c. pointwise nat_eq c.path path && nat_eq c.index j

  made_low : (path : List ℕ) (j : ℕ) (o : Option ℕ) → position (is_made_at path j) made ≡ o →
      is_some o ≡ true → is_low last (option_map_or (λ k. Old (m.next + k)) o (New path j)) ≡ true
  made_low path j None e h = absurd (let no : ⊥ = cc in no)
  made_low path j (Some k) e h =
      let none : Made = record { path = path; index = j; net = 0 } in
      let at = position-Some (is_made_at path j) made k none e in
      let within = at.0 in
      is_low_number last (m.next + k) (omega (arith, first)) (omega (arith, first, within))

  is_made : (node : Node) (j : ℕ) (c : Creation) → Contains b.nodes node →
      slice_get (transition_of system node).creations j ≡ Some c →
      is_some (position (is_made_at node.path j) made) ≡ true
  is_made node j c there here =
      let own : Made = record { path = node.path; index = j; net = c.net } in
      let from : 0 + j ≡ j = omega arith in
      let listed = subst (λ k. Contains (enumerate_from 0 (transition_of system node).creations) (k, c)) from
      (in_enumerated 0 (transition_of system node).creations j c here) in
      let in_node : Contains (made_by system node) own =
      contained_mapped (λ c. record { path = node.path; index = c.0; net = c.1.net })
      (enumerate_from 0 (transition_of system node).creations) (j, c) listed in
      has_position (is_made_at node.path j) made own
      (contained_flat (made_by system) b.nodes node own there in_node)
      (true_both (pointwise nat_eq node.path node.path) (nat_eq j j) (numbers_themselves node.path) (eq-eqb j j refl))

  start_low : (node : Node) → Contains b.nodes node → (n : ℕ) → node.inst ≡ Old n →
      is_named_low node.inst ≡ true
  start_low node there n inst =
      let own = All-contains (λ node. (n : ℕ) → node.inst ≡ Old n → net_of m n ≡ Some node.net) b.nodes node
      enabled.fits.there there n inst in
      let found = there_of_net m n node.net own in
      ap is_named_low inst ∙ there_low n (found.0, found.1)

  passes : PassesOn system m b is_named_low
  passes = record {
    start = λ node there path.
        let start = enabled.shape.start in
        let same : node ≡ start.0 = same_Some node start.0
        (sym (node_at-path system b depth node enabled.shape there) ∙ ap (node_at b) path ∙ start.1) in
        start_low node there start.2.exists.0 (ap (λ s. s.inst) same ∙ start.2.exists.1);
    made = λ node j c there here.
        made_low node.path j (position (is_made_at node.path j) made) refl (is_made node j c there here);
    tokens = λ n place v low has.
        let held = holder_there m n place v has in
        let token = sound n held.0.net place v (ap (option_map (λ i. i.net)) held.1) has in
        names_passing is_named_low v (record {
          old = λ k said. there_low k (token.there k said);
          new = λ path j news. let both : true ≡ false = sym news ∙ token.old in absurd (let no : ⊥ = cc in no);
        });
  }

  nodes_low : (node : Node) → Contains b.nodes node → is_named_low node.inst ≡ true
  nodes_low = inst_passes system m b is_named_low depth enabled passes

  values_low : (node : Node) (v : Value) → Contains b.nodes node → Contains node.values v →
      instances_within (renamed_value v name) last ≡ true
  values_low node v there has =
      within_is_only last (renamed_value v name)
      ∙ renamed_passes is_named_low (is_low last) name (λ i e. e) v
      (value_passes system m b is_named_low depth enabled passes good node v there has)

  node_writable : (names : List (List ℕ)) → length names ≡ last → (node : Node) →
      Contains b.nodes node → IsWritable system names (renamed_node name node)
  node_writable names count node there =
      let of = All-contains (IsNodeOf system) b.nodes node enabled.shape.nodes there in
      record {
        occurs = record {
          net = of.net;
          transition = of.transition;
          values = length-map node.values (λ v. renamed_value v name) ∙ of.values;
        };
        exists = ap (λ n. inst_within (name node.inst) n) count ∙ nodes_low node there;
        named =
            subst (λ n. All (λ v. instances_within v n ≡ true) (map (λ v. renamed_value v name) node.values)) (sym count)
            (All-map (λ v. instances_within v last ≡ true) (λ v. renamed_value v name) node.values
            (All-weaker (Contains node.values) (λ v. instances_within (renamed_value v name) last ≡ true)
            (λ v has. values_low node v there has) node.values (All-contains_itself node.values)));
      }

  pub nodes_writable : (names : List (List ℕ)) → length names ≡ last →
      All (IsWritable system names) (named system b m.next).nodes
  nodes_writable names count =
      All-map (IsWritable system names) (renamed_node name) b.nodes
      (All-weaker (Contains b.nodes) (λ node. IsWritable system names (renamed_node name node))
      (node_writable names count) b.nodes (All-contains_itself b.nodes))
