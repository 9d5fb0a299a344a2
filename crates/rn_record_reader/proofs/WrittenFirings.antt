-- The text of an enabled binding is read again, and tells the binding.
use Rattle.std.proofs.Common.{◌≡◌, ℕ, ◌+◌, ◌<◌, true, List, [], ◌∷◌, ◌++◌, length, map, refl, sym, ap, ◌∙◌, subst, arith}
use Rattle.std.specs.Prelude.{Option, Some, All, Contains}
use Rattle.std.specs.List.{AllZip, AllByRecursion, enumerate_from}
use Rattle.std.proofs.lemmas.List.{length-append, length-map, map-append}
use Rattle.std.proofs.lemmas.List.Elements.{All-contains, All-contains_itself, recursion_from_All}
use Rattle.rn_value.specs.Kinds.{HasKind}
use Rattle.rn_value.specs.declared.value.InstRef.{InstRef}
use Rattle.rn_value.specs.declared.value.InstRef.TheVariants.{Old}
use Rattle.rn_value.specs.declared.value.Kind.{Kind}
use Rattle.rn_value.specs.declared.value.Value.{Value}
use Rattle.rn_model.specs.declared.system.System.{System}
use Rattle.rn_model.specs.declared.system.Creation.{Creation}
use Rattle.rn_model.specs.declared.binding.Node.{Node}
use Rattle.rn_model.specs.declared.binding.Binding.{Binding}
use Rattle.rn_model.specs.Agreement.{NodeAgrees}
use Rattle.rn_model.specs.Bindings.{IsNodeOf}
use Rattle.rn_model.specs.Enabling.{Enabled}
use Rattle.rn_model.specs.Firing.{Made, creations_of, made_by, named, numbered_inst, renamed_node, renamed_value}
use Rattle.rn_model.specs.Good.{Good}
use Rattle.rn_model.specs.Markings.{IsMarking, Marking, net_of}
use Rattle.rn_model.specs.SoundTokens.{HasSoundTokens}
use Rattle.rn_model.specs.Systems.{net_at, transition_of, var_kind}
use Rattle.rn_model.proofs.AskedValues.{contained_mapped, later}
use Rattle.rn_model.proofs.EachElement.{at_place, each_append, each_flat_map, each_map, each_place, each_weaker}
use Rattle.rn_model.proofs.KindsOfValues.{renamed_has_kind}
use Rattle.rn_model.proofs.MarkingsOfRuns.{good_transition}
use Rattle.rn_lines.specs.LineText.{LineSaid}
use Rattle.rn_lines.specs.NodeText.{Given, NodeSaid}
use Rattle.rn_lines.specs.ValueText.{most_brackets}
use Rattle.rn_lookup.specs.Found.{net_of_made, node_is_called}
use Rattle.rn_model.specs.NodeText.{IsWritable, node_lines}
use Rattle.rn_record.specs.RecordText.{binding_text, names_after, numbered_nodes}
use Rattle.rn_record.specs.Writable.{HasLines}
use Rattle.rn_record_reader.specs.Bindings.{makers_of, told_binding, told_node, unnumbered}
use Rattle.rn_record_reader.specs.Called.{nets_made}
use Rattle.rn_record_reader.specs.Lines.{lines_in}
use Rattle.rn_record_reader.specs.Nodes.{Placed, Stop, binding_lines}
use Rattle.rn_record_reader.specs.Readable.{HasReadableValues, IsReadable}
use Rattle.rn_record_reader.specs.declared.maker.Maker.{Maker}
use Rattle.rn_record_reader.specs.declared.role.Role.{Role}
use Rattle.rn_record_reader.proofs.NumberedAgain.{as_maker}
use Rattle.rn_record_reader.proofs.SpelledBindings.{role_lead}
use Rattle.rn_record_reader.proofs.SpelledNodes.{names_for}
use Rattle.rn_record_reader.proofs.ReturningValues.{value_returns}
use Rattle.rn_record_reader.proofs.WrittenBack.{inst_back, is_back, net_numbered, returns, value_back}
use Rattle.rn_record_reader.proofs.WrittenBindings.{HasLead, all_called, lines_read, makers_same, names_of_nets, nets_of, nets_same, node_says, places_of, walk_renamed}
use Rattle.rn_record_reader.proofs.WrittenNodes.{IsNumbered, NodeRead, node_read}
use Rattle.rn_record_reader.proofs.WrittenOrder.{nodes_walk}
use Rattle.rn_record_reader.proofs.WrittenValues.{IsNet, still_readable}

-- What is true at a marking of a run, where instances of these nets were made.
pub record IsAt (system : System) (m : Marking) (made : List ℕ) : Type 0 where
  pub marking : IsMarking system m
  pub sound : HasSoundTokens system m
  pub count : length made + 1 ≡ m.next
  pub nets : (n net : ℕ) → net_of m n ≡ Some net → net_of_made made n ≡ Some net
  pub real : AllByRecursion (IsNet system) made
  pub few : length made < 4294967296

kinds_renamed : (name : InstRef → InstRef) (kinds : ℕ → Kind) (xs : List ℕ) (vs : List Value) →
    AllZip (λ x v. HasKind v (kinds x)) xs vs → AllZip (λ x v. HasKind v (kinds x)) xs (map (λ v. renamed_value v name) vs)
kinds_renamed name kinds [] [] are = tt
kinds_renamed name kinds [] (v ∷ vs) are = absurd are
kinds_renamed name kinds (x ∷ xs) [] are = absurd are
kinds_renamed name kinds (x ∷ xs) (v ∷ vs) are = (renamed_has_kind name v (kinds x) are.0, kinds_renamed name kinds xs vs are.1)

given_values : (name : InstRef → InstRef) (given : List Given) →
    map (λ g. renamed_value g.value name) given ≡ map (λ v. renamed_value v name) (map (λ g. g.value) given)
given_values name [] = refl
given_values name (g ∷ given) = ap (λ vs. renamed_value g.value name ∷ vs) (given_values name given)

each_contained : {X : Type 0} (xs : List X) → AllByRecursion (Contains xs) xs
each_contained xs = recursion_from_All (Contains xs) xs (All-contains_itself xs)

module _ (system : System) (m : Marking) (made : List ℕ) (depth : ℕ) (good : Good system) (at : IsAt system m made)
    (b : Binding) (enabled : Enabled system m b depth) (lines : HasLines system (names_for system made) b) where
  abbrev count : ℕ
  count = length made

  abbrev created : List Made
  created = creations_of system b

  -- the nets of the instances made by then, the binding's own among them
  abbrev pub all : List ℕ
  all = made ++ nets_of system b.nodes

  abbrev name : InstRef → InstRef
  name = numbered_inst created (count + 1)

  abbrev numbered : List Node
  numbered = map (renamed_node name) b.nodes

  node_nets : (node : Node) → IsNodeOf system node → AllByRecursion (λ c. IsNet system c.net) (made_by system node)
  node_nets node of =
      let cs : List Creation = (transition_of system node).creations in
      let t = good_transition system node.net node.transition good of.net of.transition in
      each_map (λ (c : Made). IsNet system c.net) (λ c. record { path = node.path; index = c.0; net = c.1.net }) (enumerate_from 0 cs)
      (each_place (λ e. IsNet system e.1.net) cs (λ k c e. (at_place (λ (c : Creation). IsNet system c.net × (var_kind system node.net c.var ≡ Kind.Net)) cs k c t.kinds.creations e).0))

  pub all_real : AllByRecursion (IsNet system) all
  all_real =
      each_append (IsNet system) made (nets_of system b.nodes) at.real
      (each_map (IsNet system) (λ (c : Made). c.net) created
      (each_flat_map (λ (c : Made). IsNet system c.net) (made_by system) b.nodes
      (each_weaker (IsNodeOf system) (λ node. AllByRecursion (λ (c : Made). IsNet system c.net) (made_by system node)) node_nets b.nodes
      (recursion_from_All (IsNodeOf system) b.nodes enabled.shape.nodes))))

  pub count_all : length all ≡ count + length created
  count_all =
      let joined = length-append made (nets_of system b.nodes) in
      let own : length (nets_of system b.nodes) ≡ length created = length-map created (λ c. c.net) in
      omega (arith, joined, own)

  pub all_few : length all < 4294967296
  all_few =
      let names : length (names_for system made) ≡ count = length-map made (λ net. (net_at system net).name) in
      let low = lines.low in
      let long = count_all in
      omega (arith, names, low, long)

  pub names_same : names_after system (names_for system made) b ≡ names_for system all
  names_same =
      ap (λ ns. names_for system made ++ ns) (names_of_nets system b.nodes)
      ∙ sym (map-append (λ net. (net_at system net).name) made (nets_of system b.nodes))

  numbered_same : numbered_nodes system (names_for system made) b ≡ numbered
  numbered_same = ap (λ k. (named system b (k + 1)).nodes) (length-map made (λ net. (net_at system net).name))

  writable : (node : Node) → Contains b.nodes node → IsWritable system (names_for system all) (renamed_node name node)
  writable node there =
      All-contains (IsWritable system (names_for system all)) numbered (renamed_node name node)
      (subst (λ ns. All (IsWritable system ns) numbered) names_same
      (subst (All (IsWritable system (names_after system (names_for system made) b))) numbered_same lines.nodes))
      (contained_mapped (renamed_node name) b.nodes node there)

  module _ (readable : HasReadableValues b) where
    is_numbered : (node : Node) → Contains b.nodes node → IsNumbered system good all all_real all_few (renamed_node name node)
    is_numbered node there = record {
      writable = writable node there;
      net = λ n e. net_numbered system m b depth count good at.marking at.sound enabled at.count made refl at.nets node there n e;
      kinds = kinds_renamed name (var_kind system node.net) (transition_of system node).vars node.values
          (All-contains (NodeAgrees system) b.nodes node enabled.agrees.nodes there).kinds;
      readable = each_map IsReadable (λ v. renamed_value v name) node.values
          (each_weaker IsReadable (λ v. IsReadable (renamed_value v name)) (λ v r. still_readable name v most_brackets r) node.values
          (recursion_from_All IsReadable node.values (All-contains (λ node. All IsReadable node.values) b.nodes node readable there)));
    }

    abbrev IsRead : Node → Type 0
    IsRead = NodeRead system good all all_real all_few

    reads : AllByRecursion IsRead numbered
    reads =
        each_map IsRead (renamed_node name) b.nodes
        (each_weaker (Contains b.nodes) (λ node. IsRead (renamed_node name node))
        (λ node there. node_read system good all all_real all_few (renamed_node name node) (is_numbered node there))
        b.nodes (each_contained b.nodes))

    abbrev places : List Placed
    places = places_of system good all all_real all_few numbered reads

    abbrev makers : List Maker
    makers = makers_of system places

    makers_are : map as_maker created ≡ makers
    makers_are = makers_same system good all all_real all_few name b.nodes reads

    abbrev back : InstRef → InstRef
    back = unnumbered makers count

    values_told : (node : Node) → Contains b.nodes node → (vs : List Value) → ((v : Value) → Contains vs v → Contains node.values v) →
        map (λ v. renamed_value v back) (map (λ v. renamed_value v name) vs) ≡ vs
    values_told node there [] among = refl
    values_told node there (v ∷ vs) among =
        let one = value_returns (is_back system m b depth count good at.marking at.sound enabled at.count) name back
        (returns system m b depth count good at.marking at.sound enabled at.count makers makers_are) v
        (value_back system m b depth count good at.marking at.sound enabled at.count node v there (among v (0, omega arith, refl))) in
        ap (λ w. w ∷ map (λ v. renamed_value v back) (map (λ v. renamed_value v name) vs)) one
        ∙ ap (λ ws. v ∷ ws) (values_told node there vs (λ w has. among w (later v w vs has)))

    node_told : (node : Node) → Contains b.nodes node → (read : IsRead (renamed_node name node)) →
        told_node makers count (record { path = node.path; net = node.net; transition = node.transition; said = read.said }) ≡ node
    node_told node there read =
        let given : List Value = map (λ g. renamed_value g.value back) read.said.given in
        let inst : back (Old read.said.inst.number) ≡ node.inst =
        ap back read.number
        ∙ returns system m b depth count good at.marking at.sound enabled at.count makers makers_are node.inst
        (inst_back system m b depth count good at.marking at.sound enabled at.count node there) in
        let values : given ≡ node.values =
        given_values back read.said.given ∙ ap (map (λ v. renamed_value v back)) read.values
        ∙ values_told node there node.values (λ v has. has) in
        ap (λ i. let n : Node = record { path = node.path; inst = i; net = node.net; transition = node.transition; values = given } in n) inst
        ∙ ap (λ vs. let n : Node = record { path = node.path; inst = node.inst; net = node.net; transition = node.transition; values = vs } in n) values

    nodes_told : (nodes : List Node) → ((node : Node) → Contains nodes node → Contains b.nodes node) →
        (rs : AllByRecursion IsRead (map (renamed_node name) nodes)) →
        map (told_node makers count) (places_of system good all all_real all_few (map (renamed_node name) nodes) rs) ≡ nodes
    nodes_told [] among rs = refl
    nodes_told (node ∷ nodes) among (read, rs) =
        ap (λ n. n ∷ map (told_node makers count) (places_of system good all all_real all_few (map (renamed_node name) nodes) rs))
        (node_told node (among node (0, omega arith, refl)) read)
        ∙ ap (λ ns. node ∷ ns) (nodes_told nodes (λ n has. among n (later node n nodes has)) rs)

    -- What is read of the text of the binding, before other text.
    pub record BindingRead (role : Role) (rest : List ℕ) : Type 0 where
      pub nodes : List Placed
      pub whole : binding_lines system role (lines_in (binding_text system (names_for system made) (role_lead role) b ++ rest))
          ≡ (nodes, Stop.whole (lines_in rest))
      pub told : told_binding system count nodes ≡ b
      pub nets : made ++ nets_made system nodes ≡ all
      pub called : AllByRecursion (λ x. node_is_called system all x.said ≡ true) nodes
      pub n : NodeSaid
      pub others : List (Option LineSaid)
      pub first : lines_in (binding_text system (names_for system made) (role_lead role) b ++ rest)
          ≡ Some (node_says role true n) ∷ others

    pub binding_read : (role : Role) → HasLead role → (rest : List ℕ) → BindingRead role rest
    binding_read role has rest =
        let text : binding_text system (names_for system made) (role_lead role) b
        ≡ node_lines system (names_for system all) (role_lead role) numbered =
        ap (λ ns. node_lines system ns (role_lead role) (numbered_nodes system (names_for system made) b)) names_same
        ∙ ap (node_lines system (names_for system all) (role_lead role)) numbered_same in
        let walk = walk_renamed system name b.nodes ([] ∷ []) (nodes_walk system b depth enabled.shape) in
        let read = lines_read system good all all_real all_few role has numbered reads walk rest in record {
          nodes = places;
          whole = ap (λ t. binding_lines system role (lines_in (t ++ rest))) text ∙ read.whole;
          told = ap (λ ns. let t : Binding = record { nodes = ns } in t) (nodes_told b.nodes (λ node there. there) reads);
          nets = ap (λ ns. made ++ ns) (nets_same system good all all_real all_few name b.nodes reads);
          called = all_called system good all all_real all_few numbered reads;
          n = read.n;
          others = read.others;
          first = ap (λ t. lines_in (t ++ rest)) text ∙ read.first;
        }
