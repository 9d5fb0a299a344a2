-- The lines of a binding are those that are written of it.
use Rattle.std.proofs.Common.{◌≡◌, ◌≢◌, ℕ, ◌+◌, Bool, true, false, cond, List, [], ◌∷◌, ◌++◌, length, map, refl, sym, ap, ◌∙◌, subst, append_assoc}
use Rattle.std.specs.Prelude.{Option, Some, None, codes, flat_map, nat_eq}
use Rattle.std.specs.List.{AllByRecursion}
use Rattle.std.proofs.lemmas.List.{append-nil, length-map, map-append}
use Rattle.std.proofs.lemmas.Option.{same_Some}
use Rattle.rn_model.specs.declared.system.System.{System}
use Rattle.rn_model.specs.declared.system.Creation.{Creation}
use Rattle.rn_model.specs.Systems.{net_at, transition_at}
use Rattle.rn_model.specs.Firing.{named}
use Rattle.rn_model.proofs.EachElement.{each_weaker}
use Rattle.rn_lines.specs.LineText.{LeadSaid, LineSaid, IsLine}
use Rattle.rn_lines.specs.NodeText.{NodeSaid, IsNode}
use Rattle.rn_lookup.specs.declared.refusal.Refusal.{Refusal}
use Rattle.rn_lookup.specs.Faults.{node_fault}
use Rattle.rn_lookup.specs.Found.{node_is_called}
use Rattle.rn_model.specs.NodeText.{node_text, node_line, node_lines}
use Rattle.rn_record.specs.RecordText.{names_by, names_after, binding_text, firing_lead}
use Rattle.rn_record_reader.specs.Bindings.{makers_of, told_node, told_binding}
use Rattle.rn_record_reader.specs.Called.{nets_by, nets_made}
use Rattle.rn_record_reader.specs.Paths.{is_root, children}
use Rattle.rn_record_reader.specs.Nodes.{is_step, own_node, node_due, Judged, judged, judged_by, judged_node, Placed, placed_at, Stop, node_then, nodes_from, count_called, binding_lines}
use Rattle.rn_record_reader.specs.declared.role.Role.{Role}
use Rattle.rn_record_reader.specs.declared.role.Role.TheVariants.{Firing, Fault}
use Rattle.rn_record_reader.proofs.NumberedAgain.{nodes_again}
use Rattle.rn_record_reader.proofs.PathsApart.{paths_differ, first_path}
use Rattle.rn_record_reader.proofs.SpelledLines.{Spell, lead_text}
use Rattle.rn_record_reader.proofs.SpelledNodes.{KeepsNumbers, names_for, node_keeps, node_spelled, plain_node}

-- how the lines of a binding begin
abbrev pub role_lead : Role → List ℕ
role_lead (Firing step worker) = firing_lead step worker
role_lead Fault = codes "! "

-- what stands before a node: nothing before the first
abbrev pub sign : Bool → List ℕ
sign true = []
sign false = codes "+ "

owned : (step worker : ℕ) (l : LeadSaid) (m n : NodeSaid) → own_node step worker l m ≡ Some (n, true) →
    (nat_eq l.worker worker ≡ true) × (is_step step l.step ≡ true) × (m ≡ n)
owned step worker l m n e = by (nat_eq l.worker worker) refl e
  where
    by : (own : Bool) → nat_eq l.worker worker ≡ own → cond {A = Option (NodeSaid × Bool)} own (Some (m, is_step step l.step)) None ≡ Some (n, true) →
        (nat_eq l.worker worker ≡ true) × (is_step step l.step ≡ true) × (m ≡ n)
    by true is e =
        let both = same_Some (m, is_step step l.step) (n, true) e in
        (is, ap (λ p. p.1) both, ap (λ p. p.0) both)
    by false is e = absurd (let no : ⊥ = cc in no)

-- the line of a node
line_read : (role : Role) (first : Bool) (x : LineSaid) (n : NodeSaid) (text : List ℕ) → node_due role first x ≡ Some (n, true) →
    IsLine x text → (b : List ℕ) × IsNode n b × (text ≡ (role_lead role ++ sign first) ++ b)
line_read (Firing step worker) true (LineSaid.fires l m) n text e (IsLine.fires {a = a} {b = b} is_lead is_node) =
    let o = owned step worker l m n e in
    (b, subst (λ k. IsNode k b) o.2 is_node, ap (λ t. t ++ b) (lead_text step worker is_lead o.1 o.0 ∙ sym (append-nil (firing_lead step worker))))
line_read (Firing step worker) false (LineSaid.calls l m) n text e (IsLine.calls {a = a} {b = b} is_lead is_node) =
    let o = owned step worker l m n e in (
      b,
      subst (λ k. IsNode k b) o.2 is_node,
      ap (λ t. t ++ (43 ∷ 32 ∷ b)) (lead_text step worker is_lead o.1 o.0) ∙ sym (append_assoc (firing_lead step worker) (codes "+ ") b),
    )
line_read Fault true (LineSaid.would_fire m) n text e (IsLine.would_fire {b = b} is_node) =
    let both = same_Some (m, true) (n, true) e in (b, subst (λ k. IsNode k b) (ap (λ p. p.0) both) is_node, refl)
line_read Fault false (LineSaid.would_call m) n text e (IsLine.would_call {b = b} is_node) =
    let both = same_Some (m, true) (n, true) e in (b, subst (λ k. IsNode k b) (ap (λ p. p.0) both) is_node, refl)
line_read role first x n text e is = absurd (let no : ⊥ = cc in no)

judged_fine : (m n : NodeSaid) (right : Bool) (o : Option Refusal) → judged_by m right o ≡ Judged.stands n →
    (right ≡ true) × (o ≡ None) × (m ≡ n)
judged_fine m n right (Some refusal) e = absurd (let no : ⊥ = cc in no)
judged_fine m n true None e = (refl, refl, let same : m ≡ n = cc in same)
judged_fine m n false None e = absurd (let no : ⊥ = cc in no)

due_fine : (system : System) (o : Option (NodeSaid × Bool)) (n : NodeSaid) → judged_node system o ≡ Judged.stands n →
    (o ≡ Some (n, true)) × (node_fault system n ≡ None)
due_fine system None n e = absurd (let no : ⊥ = cc in no)
due_fine system (Some x) n e =
    let fine = judged_fine x.0 n x.1 (node_fault system x.0) e in
    (ap (λ m. Some (m, x.1)) fine.2 ∙ ap (λ r. Some (n, r)) fine.0, ap (node_fault system) (sym fine.2) ∙ fine.1)

module _ (system : System) (all : List ℕ) (role : Role) where
  abbrev names : List (List ℕ)
  names = names_for system all

  abbrev line_text : Placed → List ℕ
  line_text x = node_line system names (role_lead role ++ sign (is_root x.path)) (plain_node x)

  abbrev nodes_text : List Placed → List ℕ
  nodes_text = flat_map line_text

  abbrev Keep : Placed → Type 0
  Keep x = AllByRecursion (λ g. KeepsNumbers g.value) x.said.given

  abbrev IsCalled : Placed → Type 0
  IsCalled x = node_is_called system all x.said ≡ true

  one_spelled : (path : List ℕ) (line : Option LineSaid) (n : NodeSaid) (lines : List (Option LineSaid)) (bytes : List ℕ) →
      judged system role (is_root path) line ≡ Judged.stands n → IsCalled (placed_at system path n) → Spell (line ∷ lines) bytes →
      (rest : List ℕ) × Spell lines rest × (bytes ≡ line_text (placed_at system path n) ++ rest) × Keep (placed_at system path n)
  one_spelled path None n lines bytes e called spell = absurd (let no : ⊥ = cc in no)
  one_spelled path (Some x) n lines bytes e called spell =
      let text = spell.0 in
      let rest = spell.1 in
      let fine = due_fine system (node_due role (is_root path) x) n e in
      let read = line_read role (is_root path) x n text fine.0 spell.2 in
      let node = node_spelled system all path read.1 fine.1 called in
      let lead = role_lead role ++ sign (is_root path) in
      let written = node_text system names (plain_node (placed_at system path n)) in (
        rest,
        spell.4,
        spell.3 ∙ ap (λ t. t ++ 10 ∷ rest) (read.2 ∙ ap (λ b. lead ++ b) node)
            ∙ sym (append_assoc (lead ++ written) (codes "\n") rest),
        node_keeps read.1,
      )

  abbrev Spells : List (List ℕ) → List (Option LineSaid) → Type 0
  Spells due lines = (nodes : List Placed) (left : List (Option LineSaid)) (bytes : List ℕ) →
      nodes_from system role due lines ≡ (nodes, Stop.whole left) → AllByRecursion IsCalled nodes → Spell lines bytes →
      (rest : List ℕ) × Spell left rest × (bytes ≡ nodes_text nodes ++ rest) × AllByRecursion Keep nodes

  node_on : (path : List ℕ) (due : List (List ℕ)) (line : Option LineSaid) (lines : List (Option LineSaid)) →
      ((n : NodeSaid) → Spells (children path (count_called system n) ++ due) lines) → (j : Judged) →
      judged system role (is_root path) line ≡ j →
      (nodes : List Placed) (left : List (Option LineSaid)) (bytes : List ℕ) →
      node_then system path j (λ n. nodes_from system role (children path (count_called system n) ++ due) lines) ≡ (nodes, Stop.whole left) →
      AllByRecursion IsCalled nodes → Spell (line ∷ lines) bytes →
      (rest : List ℕ) × Spell left rest × (bytes ≡ nodes_text nodes ++ rest) × AllByRecursion Keep nodes
  node_on path due line lines more (Judged.late n) is nodes left bytes e called spell =
      absurd (let stop = ap (λ r. r.1) e in let no : ⊥ = cc in no)
  node_on path due line lines more (Judged.refused r) is nodes left bytes e called spell =
      absurd (let stop = ap (λ r. r.1) e in let no : ⊥ = cc in no)
  node_on path due line lines more (Judged.stands n) is nodes left bytes e called spell =
      let read : List Placed × Stop = nodes_from system role (children path (count_called system n) ++ due) lines in
      let x = placed_at system path n in
      let are : x ∷ read.0 ≡ nodes = ap (λ r. r.0) e in
      let stop : read.1 ≡ Stop.whole left = ap (λ r. r.1) e in
      let calls = subst (AllByRecursion IsCalled) (sym are) called in
      let one = one_spelled path line n lines bytes is calls.0 spell in
      let rest = more n read.0 left one.0 (ap (λ s. (read.0, s)) stop) calls.1 one.1 in (
        rest.0,
        rest.1,
        one.2 ∙ ap (λ t. line_text x ++ t) rest.2 ∙ sym (append_assoc (line_text x) (nodes_text read.0) rest.0)
            ∙ ap (λ xs. nodes_text xs ++ rest.0) are,
        subst (AllByRecursion Keep) are (one.3, rest.3),
      )

  nodes_spelled : (due : List (List ℕ)) (lines : List (Option LineSaid)) → Spells due lines
  nodes_spelled [] lines nodes left bytes e called spell =
      let none : [] ≡ nodes = ap (λ r. r.0) e in
      let stop = ap (λ r. r.1) e in
      let same : lines ≡ left = cc in (
        bytes,
        subst (λ ls. Spell ls bytes) same spell,
        ap (λ xs. nodes_text xs ++ bytes) none,
        subst (AllByRecursion Keep) none tt,
      )
  nodes_spelled (path ∷ due) [] nodes left bytes e called spell =
      absurd (let stop = ap (λ r. r.1) e in let no : ⊥ = cc in no)
  nodes_spelled (path ∷ due) (line ∷ lines) nodes left bytes e called spell =
      node_on path due line lines (λ n. nodes_spelled (children path (count_called system n) ++ due) lines)
      (judged system role (is_root path) line) refl nodes left bytes e called spell

  others_lines : (xs : List Placed) → AllByRecursion (λ x. is_root x.path ≡ false) xs →
      nodes_text xs ≡ flat_map (node_line system names (role_lead role ++ codes "+ ")) (map plain_node xs)
  others_lines [] rest = refl
  others_lines (x ∷ xs) rest =
      ap (λ b. node_line system names (role_lead role ++ sign b) (plain_node x) ++ nodes_text xs) rest.0
      ∙ ap (λ t. node_line system names (role_lead role ++ codes "+ ") (plain_node x) ++ t) (others_lines xs rest.1)

  not_root : (path : List ℕ) → path ≢ [] → is_root path ≡ false
  not_root [] some = absurd (some refl)
  not_root (i ∷ path) some = refl

  lines_are : (lines : List (Option LineSaid)) (nodes : List Placed) (stop : Stop) → binding_lines system role lines ≡ (nodes, stop) →
      nodes_text nodes ≡ node_lines system names (role_lead role) (map plain_node nodes)
  lines_are lines [] stop e = refl
  lines_are lines (x ∷ xs) stop e =
      let root = first_path system role lines x xs stop e in
      let differ = paths_differ system role lines (x ∷ xs) stop e in
      let others = each_weaker (λ y. y.path ≢ x.path) (λ y. is_root y.path ≡ false)
      (λ y apart. not_root y.path (λ none. apart (none ∙ sym root))) xs differ.0 in
      ap (λ p. node_line system names (role_lead role ++ sign (is_root p)) (plain_node x) ++ nodes_text xs) root
      ∙ ap (λ l. node_line system names l (plain_node x) ++ nodes_text xs) (append-nil (role_lead role))
      ∙ ap (λ t. node_line system names (role_lead role) (plain_node x) ++ t) (others_lines xs others)

-- the names of the nets of the instances that a binding makes
fused : {X Y Z : Type 0} (f : Y → Z) (g : X → Y) (xs : List X) → map f (map g xs) ≡ map (λ x. f (g x)) xs
fused f g [] = refl
fused f g (x ∷ xs) = ap (λ zs. f (g x) ∷ zs) (fused f g xs)

module _ (system : System) (made : List ℕ) (nodes : List Placed) where
  abbrev name : ℕ → List ℕ
  name net = (net_at system net).name

  node_names : (xs : List Placed) →
      flat_map (names_by system) (map (told_node (makers_of system nodes) (length made)) xs) ≡ names_for system (nets_made system xs)
  node_names [] = refl
  node_names (x ∷ xs) =
      let cs : List Creation = (transition_at system x.net x.transition).creations in
      ap (λ ns. map (λ c. name c.net) cs ++ ns) (node_names xs)
      ∙ ap (λ ns. ns ++ names_for system (nets_made system xs)) (sym (fused name (λ c. c.net) cs))
      ∙ sym (map-append name (nets_by system x) (nets_made system xs))

  pub names_more : names_after system (names_for system made) (told_binding system (length made) nodes)
      ≡ names_for system (made ++ nets_made system nodes)
  names_more =
      ap (λ ns. names_for system made ++ ns) (node_names nodes) ∙ sym (map-append name made (nets_made system nodes))

-- The lines of a binding are its text.
pub binding_spelled : (system : System) (made : List ℕ) (role : Role) (lines left : List (Option LineSaid)) (nodes : List Placed)
    (bytes : List ℕ) → binding_lines system role lines ≡ (nodes, Stop.whole left) →
    AllByRecursion (λ x. node_is_called system (made ++ nets_made system nodes) x.said ≡ true) nodes → Spell lines bytes →
    (rest : List ℕ) × Spell left rest
    × (bytes ≡ binding_text system (names_for system made) (role_lead role) (told_binding system (length made) nodes) ++ rest)
binding_spelled system made role lines left nodes bytes e called spell =
    let whole = made ++ nets_made system nodes in
    let b = told_binding system (length made) nodes in
    let lead = role_lead role in
    let spelled = nodes_spelled system whole role ([] ∷ []) lines nodes left bytes e called spell in
    let numbered : (named system b (length (names_for system made) + 1)).nodes ≡ map plain_node nodes =
    ap (λ k. (named system b (k + 1)).nodes) (length-map made (λ net. (net_at system net).name))
    ∙ nodes_again system (length made) nodes (paths_differ system role lines nodes (Stop.whole left) e) nodes spelled.3 in (
      spelled.0,
      spelled.1,
      spelled.2 ∙ ap (λ t. t ++ spelled.0) (lines_are system whole role lines nodes (Stop.whole left) e
          ∙ ap (λ ns. node_lines system ns lead (map plain_node nodes)) (sym (names_more system made nodes))
          ∙ ap (λ ns. node_lines system (names_after system (names_for system made) b) lead ns) (sym numbered)),
    )
