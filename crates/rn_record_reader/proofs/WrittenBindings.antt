-- The lines of a binding that are written are read again, and tell the binding.
use Rattle.std.proofs.Common.{◌≡◌, ℕ, zero, suc, ◌+◌, ◌<◌, ◌≤◌, Bool, true, false, List, [], ◌∷◌, ◌++◌, length, map, refl, sym, ap, ◌∙◌, subst, append_assoc}
use Rattle.std.specs.Prelude.{Option, Some, None, ⊤, codes, flat_map, nat_eq}
use Rattle.std.specs.List.{AllByRecursion, enumerate_from}
use Rattle.std.proofs.lemmas.Bool.{eq-eqb}
use Rattle.std.proofs.lemmas.List.{append-nil, map-append}
use Rattle.std.proofs.lemmas.Slice.Eq.{bytes_eq-Decides}
use Rattle.rn_value.specs.Text.{numeral}
use Rattle.rn_value.specs.declared.value.InstRef.{InstRef}
use Rattle.rn_model.specs.declared.system.System.{System}
use Rattle.rn_model.specs.declared.system.Creation.{Creation}
use Rattle.rn_model.specs.declared.binding.Node.{Node}
use Rattle.rn_model.specs.Firing.{Made, made_by, renamed_node}
use Rattle.rn_model.specs.Good.{Good}
use Rattle.rn_model.specs.Systems.{net_at, transition_at, transition_of}
use Rattle.rn_lines.specs.LineText.{IsLine, LineSaid}
use Rattle.rn_lines.specs.NodeText.{IsNode, NodeSaid}
use Rattle.rn_lookup.specs.Faults.{node_fault}
use Rattle.rn_lookup.specs.Found.{node_is_called}
use Rattle.rn_model.specs.NodeText.{node_line, node_lines, node_text}
use Rattle.rn_record.specs.RecordText.{firing_lead, names_by}
use Rattle.rn_record_reader.specs.Bindings.{makers_by, makers_of}
use Rattle.rn_record_reader.specs.Called.{nets_made}
use Rattle.rn_record_reader.specs.Lines.{lines_in}
use Rattle.rn_record_reader.specs.Nodes.{Judged, Placed, Stop, binding_lines, count_called, is_step, judged, judged_by, judged_node, node_due, node_then, nodes_from, with_node}
use Rattle.rn_record_reader.specs.Paths.{children, children_from, is_root}
use Rattle.rn_record_reader.specs.declared.role.Role.{Role}
use Rattle.rn_record_reader.specs.declared.role.Role.TheVariants.{Firing, Fault}
use Rattle.rn_record_reader.proofs.NumberedAgain.{as_maker, each_made}
use Rattle.rn_record_reader.proofs.SpelledBindings.{role_lead, sign}
use Rattle.rn_record_reader.proofs.SpelledNodes.{names_for}
use Rattle.rn_record_reader.proofs.WrittenLines.{lead_of, lead_written, line_then}
use Rattle.rn_record_reader.proofs.WrittenNodes.{NodeRead, place_of}
use Rattle.rn_record_reader.proofs.WrittenOrder.{Walk, downs}
use Rattle.rn_record_reader.proofs.WrittenValues.{IsNet}

-- the worker of an entry that has one is within the limits
abbrev pub HasLead : Role → Type 0
HasLead (Firing step worker) = (1 ≤ worker) × (worker ≤ 64)
HasLead Fault = ⊤

-- the line of a node
abbrev pub node_says : Role → Bool → NodeSaid → LineSaid
node_says (Firing step worker) true n = LineSaid.fires (lead_of step worker) n
node_says (Firing step worker) false n = LineSaid.calls (lead_of step worker) n
node_says Fault true n = LineSaid.would_fire n
node_says Fault false n = LineSaid.would_call n

line_is : (role : Role) → HasLead role → (first : Bool) (n : NodeSaid) (b : List ℕ) → IsNode n b →
    IsLine (node_says role first n) ((role_lead role ++ sign first) ++ b)
line_is (Firing step worker) has true n b is =
    subst (λ l. IsLine (LineSaid.fires (lead_of step worker) n) (l ++ b)) (sym (append-nil (firing_lead step worker)))
    (IsLine.fires (lead_written step worker has.0 has.1) is)
line_is (Firing step worker) has false n b is =
    subst (IsLine (LineSaid.calls (lead_of step worker) n)) (sym (append_assoc (firing_lead step worker) (codes "+ ") b))
    (IsLine.calls (lead_written step worker has.0 has.1) is)
line_is Fault has true n b is = IsLine.would_fire is
line_is Fault has false n b is = IsLine.would_call is

pub own_worker : (worker : ℕ) → nat_eq worker worker ≡ true
own_worker worker = eq-eqb worker worker refl

pub own_step : (step : ℕ) → is_step step (numeral step) ≡ true
own_step step = (bytes_eq-Decides (numeral step) (numeral step)).1 refl

line_due : (role : Role) (first : Bool) (n : NodeSaid) → node_due role first (node_says role first n) ≡ Some (n, true)
line_due (Firing step worker) true n = rw (own_worker worker, own_step step) refl
line_due (Firing step worker) false n = rw (own_worker worker, own_step step) refl
line_due Fault true n = refl
line_due Fault false n = refl

line_judged : (system : System) (role : Role) (first : Bool) (n : NodeSaid) → node_fault system n ≡ None →
    judged system role first (Some (node_says role first n)) ≡ Judged.stands n
line_judged system role first n fine = ap (judged_node system) (line_due role first n) ∙ ap (judged_by n true) fine

line_cut : (lead text others rest : List ℕ) →
    ((lead ++ text ++ codes "\n") ++ others) ++ rest ≡ (lead ++ text) ++ 10 ∷ (others ++ rest)
line_cut lead text others rest = simp append_assoc

child_not_root : (path : List ℕ) (i : ℕ) → is_root (path ++ i ∷ []) ≡ false
child_not_root [] i = refl
child_not_root (n ∷ path) i = refl

children_not_root : (path : List ℕ) (i more : ℕ) (due : List (List ℕ)) → AllByRecursion (λ p. is_root p ≡ false) due →
    AllByRecursion (λ p. is_root p ≡ false) (children_from path i more ++ due)
children_not_root path i zero due rest = rest
children_not_root path i (suc more) due rest = (child_not_root path i, children_not_root path (i + 1) more due rest)

module _ (system : System) where
  -- nodes after the first one
  others_not_root : (nodes : List Node) (due : List (List ℕ)) → AllByRecursion (λ p. is_root p ≡ false) due →
      Walk system due nodes → AllByRecursion (λ node. is_root node.path ≡ false) nodes
  others_not_root [] due none walk = tt
  others_not_root (node ∷ nodes) due none (rest, is, walk) =
      let all = subst (AllByRecursion (λ p. is_root p ≡ false)) is none in
      (all.0, others_not_root nodes (children node.path (downs system node) ++ rest) (children_not_root node.path 0 (downs system node) rest all.1) walk)

  pub walk_renamed : (name : InstRef → InstRef) (nodes : List Node) (due : List (List ℕ)) → Walk system due nodes →
      Walk system due (map (renamed_node name) nodes)
  walk_renamed name [] due walk = walk
  walk_renamed name (node ∷ nodes) due (rest, is, walk) =
      (rest, is, walk_renamed name nodes (children node.path (downs system node) ++ rest) walk)

  -- the nets of the instances that nodes make, and their names
  abbrev pub nets_of : List Node → List ℕ
  nets_of nodes = map (λ c. c.net) (flat_map (made_by system) nodes)

  fused : (path : List ℕ) (n : ℕ) (cs : List Creation) →
      map (λ c. c.net) (map (λ c. let made : Made = record { path = path; index = c.0; net = c.1.net } in made) (enumerate_from n cs))
      ≡ map (λ c. c.net) cs
  fused path n [] = refl
  fused path n (c ∷ cs) = ap (λ nets. c.net ∷ nets) (fused path (n + 1) cs)

  fused_names : (cs : List Creation) → map (λ c. (net_at system c.net).name) cs ≡ names_for system (map (λ c. c.net) cs)
  fused_names [] = refl
  fused_names (c ∷ cs) = ap (λ names. (net_at system c.net).name ∷ names) (fused_names cs)

  pub names_of_nets : (nodes : List Node) → flat_map (names_by system) nodes ≡ names_for system (nets_of nodes)
  names_of_nets [] = refl
  names_of_nets (node ∷ nodes) =
      let cs : List Creation = (transition_of system node).creations in
      ap (λ names. map (λ c. (net_at system c.net).name) cs ++ names) (names_of_nets nodes)
      ∙ ap (λ names. names ++ names_for system (nets_of nodes)) (fused_names cs ∙ ap (names_for system) (sym (fused node.path 0 cs)))
      ∙ sym (map-append (λ net. (net_at system net).name) (map (λ c. c.net) (made_by system node)) (nets_of nodes))
      ∙ ap (names_for system) (sym (map-append (λ c. c.net) (made_by system node) (flat_map (made_by system) nodes)))

module _ (system : System) (good : Good system) (all : List ℕ) (real : AllByRecursion (IsNet system) all)
    (few : length all < 4294967296) where
  abbrev names : List (List ℕ)
  names = names_for system all

  abbrev IsRead : Node → Type 0
  IsRead = NodeRead system good all real few

  -- where nodes are read
  abbrev pub places_of : (nodes : List Node) → AllByRecursion IsRead nodes → List Placed
  places_of [] reads = []
  places_of (node ∷ nodes) (read, reads) = place_of system good all real few node read.said ∷ places_of nodes reads

  pub all_called : (nodes : List Node) (reads : AllByRecursion IsRead nodes) →
      AllByRecursion (λ x. node_is_called system all x.said ≡ true) (places_of nodes reads)
  all_called [] reads = tt
  all_called (node ∷ nodes) (read, reads) = (read.called, all_called nodes reads)

  pub nets_same : (name : InstRef → InstRef) (nodes : List Node) (reads : AllByRecursion IsRead (map (renamed_node name) nodes)) →
      nets_made system (places_of (map (renamed_node name) nodes) reads) ≡ nets_of system nodes
  nets_same name [] reads = refl
  nets_same name (node ∷ nodes) (read, reads) =
      let cs : List Creation = (transition_of system node).creations in
      ap (λ nets. map (λ c. c.net) cs ++ nets) (nets_same name nodes reads)
      ∙ ap (λ nets. nets ++ nets_of system nodes) (sym (fused system node.path 0 cs))
      ∙ sym (map-append (λ c. c.net) (made_by system node) (flat_map (made_by system) nodes))

  pub makers_same : (name : InstRef → InstRef) (nodes : List Node) (reads : AllByRecursion IsRead (map (renamed_node name) nodes)) →
      map as_maker (flat_map (made_by system) nodes) ≡ makers_of system (places_of (map (renamed_node name) nodes) reads)
  makers_same name [] reads = refl
  makers_same name (node ∷ nodes) (read, reads) =
      map-append as_maker (made_by system node) (flat_map (made_by system) nodes)
      ∙ ap (λ ms. ms ++ map as_maker (flat_map (made_by system) nodes))
      (each_made node.path (enumerate_from 0 (transition_of system node).creations))
      ∙ ap (λ ms. makers_by system (place_of system good all real few (renamed_node name node) read.said) ++ ms) (makers_same name nodes reads)

  module _ (role : Role) (has : HasLead role) where
    abbrev line_text : Node → List ℕ
    line_text node = node_line system names (role_lead role ++ sign (is_root node.path)) node

    abbrev texts : List Node → List ℕ
    texts = flat_map line_text

    -- the first line of nodes
    first_line : (node : Node) (nodes : List Node) (read : IsRead node) (rest : List ℕ) →
        lines_in (texts (node ∷ nodes) ++ rest)
        ≡ Some (node_says role (is_root node.path) read.said) ∷ lines_in (texts nodes ++ rest)
    first_line node nodes read rest =
        let lead = role_lead role ++ sign (is_root node.path) in
        let text = node_text system names node in
        let cut : texts (node ∷ nodes) ++ rest ≡ (lead ++ text) ++ 10 ∷ (texts nodes ++ rest) = line_cut lead text (texts nodes) rest in
        ap lines_in cut ∙ line_then (line_is role has (is_root node.path) read.said text read.is) (texts nodes ++ rest)

    -- what is read of nodes that stand in their order
    nodes_read : (nodes : List Node) (reads : AllByRecursion IsRead nodes) (due : List (List ℕ)) → Walk system due nodes →
        (rest : List ℕ) →
        nodes_from system role due (lines_in (texts nodes ++ rest)) ≡ (places_of nodes reads, Stop.whole (lines_in rest))
    nodes_read [] reads due none rest = ap (λ d. nodes_from system role d (lines_in rest)) none
    nodes_read (node ∷ nodes) (read, reads) due (more, is, walk) rest =
        let later = lines_in (texts nodes ++ rest) in
        let n : NodeSaid = read.said in
        let next : ℕ → List Placed × Stop = λ k. nodes_from system role (children node.path k ++ more) later in
        let count : count_called system n ≡ downs system node =
        ap (λ (x : Placed). length (transition_at system x.net x.transition).downlinks) read.placed in
        ap (λ d. nodes_from system role d (lines_in (texts (node ∷ nodes) ++ rest))) is
        ∙ ap (nodes_from system role (node.path ∷ more)) (first_line node nodes read rest)
        ∙ ap (λ j. node_then system node.path j (λ n. nodes_from system role (children node.path (count_called system n) ++ more) later))
        (line_judged system role (is_root node.path) n read.fault)
        ∙ ap (λ x. with_node x (next (count_called system n))) read.placed
        ∙ ap (λ k. with_node (place_of system good all real few node n) (next k)) count
        ∙ ap (with_node (place_of system good all real few node n)) (nodes_read nodes reads (children node.path (downs system node) ++ more) walk rest)

    others_text : (nodes : List Node) → AllByRecursion (λ node. is_root node.path ≡ false) nodes →
        texts nodes ≡ flat_map (node_line system names (role_lead role ++ codes "+ ")) nodes
    others_text [] none = refl
    others_text (node ∷ nodes) (none, more) =
        ap (λ b. node_line system names (role_lead role ++ sign b) node ++ texts nodes) none
        ∙ ap (λ t. node_line system names (role_lead role ++ codes "+ ") node ++ t) (others_text nodes more)

    text_is : (nodes : List Node) → Walk system ([] ∷ []) nodes →
        texts nodes ≡ node_lines system names (role_lead role) nodes
    text_is [] walk = refl
    text_is (node ∷ nodes) (rest, is, walk) =
        let root : node.path ≡ [] = let both = is in cc in
        let none : rest ≡ [] = let both = is in cc in
        let others = others_not_root system nodes (children node.path (downs system node) ++ rest)
        (children_not_root node.path 0 (downs system node) rest (subst (AllByRecursion (λ p. is_root p ≡ false)) (sym none) tt)) walk in
        ap (λ p. node_line system names (role_lead role ++ sign (is_root p)) node ++ texts nodes) root
        ∙ ap (λ l. node_line system names l node ++ texts nodes) (append-nil (role_lead role))
        ∙ ap (λ t. node_line system names (role_lead role) node ++ t) (others_text nodes others)

    -- What is read of the lines of a binding: its nodes, of which the first one begins the entry.
    pub record LinesRead (nodes : List Node) (reads : AllByRecursion IsRead nodes) (rest : List ℕ) : Type 0 where
      pub whole : binding_lines system role (lines_in (node_lines system names (role_lead role) nodes ++ rest))
          ≡ (places_of nodes reads, Stop.whole (lines_in rest))
      pub n : NodeSaid
      pub others : List (Option LineSaid)
      pub first : lines_in (node_lines system names (role_lead role) nodes ++ rest) ≡ Some (node_says role true n) ∷ others

    pub lines_read : (nodes : List Node) (reads : AllByRecursion IsRead nodes) → Walk system ([] ∷ []) nodes →
        (rest : List ℕ) → LinesRead nodes reads rest
    lines_read [] reads walk rest = absurd (let no : ⊥ = cc in no)
    lines_read (node ∷ nodes) (read, reads) walk rest =
        let same = text_is (node ∷ nodes) walk in
        let root : node.path ≡ [] = let both = walk.1 in cc in record {
          whole = ap (λ t. binding_lines system role (lines_in (t ++ rest))) (sym same) ∙ nodes_read (node ∷ nodes) (read, reads) ([] ∷ []) walk rest;
          n = read.said;
          others = lines_in (texts nodes ++ rest);
          first = ap (λ t. lines_in (t ++ rest)) (sym same) ∙ first_line node nodes read rest
              ∙ ap (λ p. Some (node_says role (is_root p) read.said) ∷ lines_in (texts nodes ++ rest)) root;
        }
