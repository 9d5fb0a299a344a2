-- The instances of an enabled binding, once they have numbers, are read as what they were.
use Rattle.std.proofs.Common.{◌≡◌, ℕ, zero, suc, ◌+◌, ◌-◌, ◌≤◌, Bool, true, false, cond, List, [], ◌∷◌, ◌++◌, length, map, refl, sym, ap, ◌∙◌, subst, arith, get_or}
use Rattle.std.specs.Prelude.{Option, Some, None, Contains, ◌&&◌, is_some, nat_eq, nat_le, position, slice_get, option_map, unwrap_or, option_and_then}
use Rattle.std.specs.List.{enumerate_from}
use Rattle.std.specs.Option.{option_map_or}
use Rattle.std.specs.Cmp.Lexicographic.{pointwise}
use Rattle.std.proofs.lemmas.Bool.{eq-eqb, eqb-true, false≢true}
use Rattle.std.proofs.lemmas.Bool.Decides.{nat_tests}
use Rattle.std.proofs.lemmas.List.Elements.{All-contains}
use Rattle.std.proofs.lemmas.List.Quantifiers.{position-Some}
use Rattle.std.proofs.lemmas.Option.{same_Some, slice_get-get_or, slice_get-map}
use Rattle.rn_items.proofs.Numbers.{numbers_themselves, same_numbers}
use Rattle.rn_items.proofs.Bools.{and_left, and_right, true_both}
use Rattle.rn_value.specs.declared.value.InstRef.{InstRef}
use Rattle.rn_value.specs.declared.value.InstRef.TheVariants.{Old, New}
use Rattle.rn_value.specs.declared.value.Value.{Value}
use Rattle.rn_model.specs.declared.system.System.{System}
use Rattle.rn_model.specs.declared.system.Creation.{Creation}
use Rattle.rn_model.specs.declared.binding.Node.{Node}
use Rattle.rn_model.specs.declared.binding.Binding.{Binding}
use Rattle.rn_model.specs.Bindings.{IsOfCreation, node_at}
use Rattle.rn_model.specs.Enabling.{Enabled}
use Rattle.rn_model.specs.Firing.{Made, creations_of, made_by, numbered_inst}
use Rattle.rn_model.specs.Good.{Good}
use Rattle.rn_model.specs.Markings.{Instance, IsMarking, IsThere, Marking, instance_at, net_of, tokens_at}
use Rattle.rn_model.specs.SoundTokens.{HasSoundTokens}
use Rattle.rn_model.specs.Systems.{transition_of}
use Rattle.rn_model.proofs.AskedValues.{contained_flat, contained_mapped, flat_source, got_contained, map_source}
use Rattle.rn_model.proofs.DeadInstances.{below_next, there_of_net}
use Rattle.rn_model.proofs.DerivedInstances.{PassesOn, inst_passes, value_passes}
use Rattle.rn_model.proofs.EnablingLemmas.{not_in_nil}
use Rattle.rn_model.proofs.IndicesInLists.{from_enumerated, has_position, in_enumerated}
use Rattle.rn_model.proofs.NodesByPath.{node_at-path}
use Rattle.rn_model.proofs.PassingInstances.{names_passing, only}
use Rattle.rn_lookup.specs.Found.{net_of_made}
use Rattle.rn_record_reader.specs.Bindings.{unnumbered}
use Rattle.rn_record_reader.specs.declared.maker.Maker.{Maker}
use Rattle.rn_record_reader.proofs.NumberedAgain.{as_maker}

-- the net of an instance that was made, among more
pub net_still_made : (made more : List ℕ) (n net : ℕ) → net_of_made made n ≡ Some net → net_of_made (made ++ more) n ≡ Some net
net_still_made made more n net e = by (nat_eq n 0) e
  where
    among : (xs : List ℕ) (k : ℕ) → slice_get xs k ≡ Some net → slice_get (xs ++ more) k ≡ Some net
    among [] k e = absurd (let no : ⊥ = cc in no)
    among (x ∷ xs) zero e = e
    among (x ∷ xs) (suc k) e = among xs k e

    by : (none : Bool) → cond none None (slice_get made (n - 1)) ≡ Some net → cond none None (slice_get (made ++ more) (n - 1)) ≡ Some net
    by true e = absurd (let no : ⊥ = cc in no)
    by false e = among made (n - 1) e

-- the net of one that is made next
pub net_made_next : (made more : List ℕ) (n k net : ℕ) → n ≡ length made + 1 + k → slice_get more k ≡ Some net →
    net_of_made (made ++ more) n ≡ Some net
net_made_next made more n k net number e =
    let apart : nat_eq n 0 ≡ false = grind (arith, nat_tests) in
    let index : n - 1 ≡ length made + k = omega (arith, number) in
    ap (λ b. cond b None (slice_get (made ++ more) (n - 1))) apart ∙ ap (slice_get (made ++ more)) index ∙ behind made
  where
    behind : (xs : List ℕ) → slice_get (xs ++ more) (length xs + k) ≡ Some net
    behind [] =
        let from : 0 + k ≡ k = omega arith in
        ap (slice_get more) from ∙ e
    behind (x ∷ xs) =
        let next : length (x ∷ xs) + k ≡ suc (length xs + k) = omega arith in
        ap (slice_get (x ∷ (xs ++ more))) next ∙ behind xs

module _ (system : System) (m : Marking) (b : Binding) (depth count : ℕ) (good : Good system)
    (is : IsMarking system m) (sound : HasSoundTokens system m) (enabled : Enabled system m b depth)
    (first : count + 1 ≡ m.next) where
  abbrev created : List Made
  created = creations_of system b

  abbrev is_made_at : List ℕ → ℕ → Made → Bool
  is_made_at path j = λ c. pointwise nat_eq c.path path && nat_eq c.index j

  -- an instance that was made, or that the binding makes
  abbrev pub is_back : InstRef → Bool
  is_back (Old n) = nat_le n count
  is_back (New path j) = is_some (position (is_made_at path j) created)

  -- the numbers of the instances
  abbrev name : InstRef → InstRef
  name = numbered_inst created (count + 1)

  old_back : (n : ℕ) → IsThere m n → is_back (Old n) ≡ true
  old_back n there =
      let low = below_next system m n is there in
      let high : n ≤ count = omega (arith, low, first) in
      grind (arith, nat_tests)

  made_back : (node : Node) (j : ℕ) (c : Creation) → Contains b.nodes node →
      slice_get (transition_of system node).creations j ≡ Some c → is_back (New node.path j) ≡ true
  made_back node j c there here =
      let own : Made = record { path = node.path; index = j; net = c.net } in
      let from : 0 + j ≡ j = omega arith in
      let listed = subst (λ k. Contains (enumerate_from 0 (transition_of system node).creations) (k, c)) from
      (in_enumerated 0 (transition_of system node).creations j c here) in
      let in_node : Contains (made_by system node) own =
      contained_mapped (λ c. record { path = node.path; index = c.0; net = c.1.net })
      (enumerate_from 0 (transition_of system node).creations) (j, c) listed in
      has_position (is_made_at node.path j) created own
      (contained_flat (made_by system) b.nodes node own there in_node)
      (true_both (pointwise nat_eq node.path node.path) (nat_eq j j) (numbers_themselves node.path) (eq-eqb j j refl))

  start_back : (node : Node) → Contains b.nodes node → (n : ℕ) → node.inst ≡ Old n → is_back node.inst ≡ true
  start_back node there n inst =
      let own = All-contains (λ node. (n : ℕ) → node.inst ≡ Old n → net_of m n ≡ Some node.net) b.nodes node
      enabled.fits.there there n inst in
      let found = there_of_net m n node.net own in
      ap is_back inst ∙ old_back n (found.0, found.1)

  holder_there : (n place : ℕ) (v : Value) → Contains (tokens_at m n place) v → IsThere m n
  holder_there n place v = by (instance_at m n) refl
    where
      by : (o : Option Instance) → instance_at m n ≡ o →
          Contains (unwrap_or (option_and_then (λ i. slice_get i.places place) o) []) v → IsThere m n
      by None e h = absurd (not_in_nil v h)
      by (Some i) e h = (i, e)

  passes : PassesOn system m b is_back
  passes = record {
    start = λ node there path.
        let start = enabled.shape.start in
        let same : node ≡ start.0 = same_Some node start.0
        (sym (node_at-path system b depth node enabled.shape there) ∙ ap (node_at b) path ∙ start.1) in
        start_back node there start.2.exists.0 (ap (λ s. s.inst) same ∙ start.2.exists.1);
    made = made_back;
    tokens = λ n place v low has.
        let held = holder_there n place v has in
        let token = sound n held.0.net place v (ap (option_map (λ i. i.net)) held.1) has in
        names_passing is_back v (record {
          old = λ k said. old_back k (token.there k said);
          new = λ path j news. let both : true ≡ false = sym news ∙ token.old in absurd (let no : ⊥ = cc in no);
        });
  }

  pub inst_back : (node : Node) → Contains b.nodes node → is_back node.inst ≡ true
  inst_back = inst_passes system m b is_back depth enabled passes

  pub value_back : (node : Node) (v : Value) → Contains b.nodes node → Contains node.values v → only is_back v ≡ true
  value_back = value_passes system m b is_back depth enabled passes good

  -- the creation that gets a number
  record IsCreation (path : List ℕ) (j k : ℕ) : Type 0 where
    c : Made
    at : slice_get created k ≡ Some c
    path_is : c.path ≡ path
    index_is : c.index ≡ j

  creation_at : (path : List ℕ) (j k : ℕ) → position (is_made_at path j) created ≡ Some k → IsCreation path j k
  creation_at path j k e =
      let none : Made = record { path = path; index = j; net = 0 } in
      let at = position-Some (is_made_at path j) created k none e in
      let c : Made = get_or created k none in record {
        c = c;
        at = slice_get-get_or created k none at.0;
        path_is = same_numbers c.path path (and_left (pointwise nat_eq c.path path) (nat_eq c.index j) at.1);
        index_is = eqb-true c.index j (and_right (pointwise nat_eq c.path path) (nat_eq c.index j) at.1);
      }

  -- by what makes them, numbers are read as instances
  module _ (makers : List Maker) (are : map as_maker created ≡ makers) where
    new_returns : (path : List ℕ) (j : ℕ) (o : Option ℕ) → position (is_made_at path j) created ≡ o → is_some o ≡ true →
        unnumbered makers count (option_map_or (λ k. Old (count + 1 + k)) o (New path j)) ≡ New path j
    new_returns path j None e some = absurd (false≢true some)
    new_returns path j (Some k) e some =
        let of = creation_at path j k e in
        let late : nat_le (count + 1 + k) count ≡ false = grind (arith, nat_tests) in
        let index : count + 1 + k - count - 1 ≡ k = omega arith in
        let maker : slice_get makers k ≡ Some (as_maker of.c) =
        ap (λ ms. slice_get ms k) (sym are) ∙ slice_get-map as_maker created k ∙ ap (option_map as_maker) of.at in
        ap (λ b. cond b (Old (count + 1 + k)) (option_map_or (λ m. New m.path m.index) (slice_get makers (count + 1 + k - count - 1)) (Old (count + 1 + k)))) late
        ∙ ap (λ i. option_map_or (λ m. New m.path m.index) (slice_get makers i) (Old (count + 1 + k))) index
        ∙ ap (λ o. option_map_or (λ m. New m.path m.index) o (Old (count + 1 + k))) maker
        ∙ ap (λ p. New p of.c.index) of.path_is ∙ ap (New path) of.index_is

    pub returns : (i : InstRef) → is_back i ≡ true → unnumbered makers count (name i) ≡ i
    returns (Old n) e = ap (λ b. cond b (Old n) (option_map_or (λ m. New m.path m.index) (slice_get makers (n - count - 1)) (Old n))) e
    returns (New path j) e = new_returns path j (position (is_made_at path j) created) refl e

  -- the net of a creation is that of the node that stands on its instance
  same_net : (node : Node) (path : List ℕ) (j : ℕ) (c : Made) → Contains b.nodes node → node.inst ≡ New path j →
      Contains created c → c.path ≡ path → c.index ≡ j → c.net ≡ node.net
  same_net node path j c there inst among path_is index_is =
      let of = All-contains (IsOfCreation system b) b.nodes node enabled.shape.created there path j inst in
      let maker = flat_source (made_by system) b.nodes c among in
      let source = map_source (λ c. let made : Made = record { path = maker.0.path; index = c.0; net = c.1.net } in made)
      (enumerate_from 0 (transition_of system maker.0).creations) c maker.2 in
      let at = from_enumerated 0 (transition_of system maker.0).creations source.0 source.1 in
      let path_same : maker.0.path ≡ path = ap (λ (c : Made). c.path) source.2 ∙ path_is in
      let index : at.0 ≡ j =
      let one = at.1 in let two : source.0.0 ≡ c.index = ap (λ (c : Made). c.index) source.2 in omega (arith, one, two, index_is) in
      let node_same : maker.0 ≡ of.0 = same_Some maker.0 of.0
      (sym (node_at-path system b depth maker.0 enabled.shape maker.1) ∙ ap (node_at b) path_same ∙ of.2) in
      let creation : source.0.1 ≡ of.1 = same_Some source.0.1 of.1
      (sym at.2 ∙ ap (slice_get (transition_of system maker.0).creations) index
      ∙ ap (λ n. slice_get (transition_of system n).creations j) node_same ∙ of.3) in
      ap (λ (c : Made). c.net) (sym source.2) ∙ ap (λ (c : Creation). c.net) creation ∙ sym of.4

  -- the net of an instance on which a node stands, by its number
  module _ (made : List ℕ) (many : length made ≡ count) (nets : (n net : ℕ) → net_of m n ≡ Some net → net_of_made made n ≡ Some net) where
    pub net_numbered : (node : Node) → Contains b.nodes node → (n : ℕ) → name node.inst ≡ Old n →
        net_of_made (made ++ map (λ c. c.net) created) n ≡ Some node.net
    net_numbered node there n e = by node.inst refl
      where
        new : (path : List ℕ) (j : ℕ) (o : Option ℕ) → position (is_made_at path j) created ≡ o → node.inst ≡ New path j →
            option_map_or (λ k. Old (count + 1 + k)) o (New path j) ≡ Old n → net_of_made (made ++ map (λ c. c.net) created) n ≡ Some node.net
        new path j None at inst e = absurd (let no : ⊥ = cc in no)
        new path j (Some k) at inst e =
            let of = creation_at path j k at in
            let number : count + 1 + k ≡ n = cc in
            let place : n ≡ length made + 1 + k = omega (arith, number, many) in
            net_made_next made (map (λ c. c.net) created) n k node.net place
            (slice_get-map (λ c. c.net) created k ∙ ap (option_map (λ c. c.net)) of.at
            ∙ ap Some (same_net node path j of.c there inst (got_contained created k of.c of.at) of.path_is of.index_is))

        by : (i : InstRef) → node.inst ≡ i → net_of_made (made ++ map (λ c. c.net) created) n ≡ Some node.net
        by (Old k) inst =
            let number : k ≡ n = let both = sym (ap name inst) ∙ e in cc in
            let own = All-contains (λ node. (n : ℕ) → node.inst ≡ Old n → net_of m n ≡ Some node.net) b.nodes node
            enabled.fits.there there n (inst ∙ ap (λ n. Old n) number) in
            net_still_made made (map (λ c. c.net) created) n node.net (nets n node.net own)
        by (New path j) inst = new path j (position (is_made_at path j) created) refl inst (sym (ap name inst) ∙ e)
