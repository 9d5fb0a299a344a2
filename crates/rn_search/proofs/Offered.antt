-- Each binding to which decisions lead goes on with an alternative of each point.
use Rattle.std.proofs.Common.{◌≡◌, ℕ, ◌+◌, ◌-◌, ◌≤◌, Bool, true, false, List, [], ◌∷◌}
use Rattle.std.proofs.Common.{◌++◌, length, refl, sym, ap, ◌∙◌, subst, inl, inr, arith}
use Rattle.std.specs.Prelude.{Option, Some, None, option_map, slice_get, Contains}
use Rattle.std.specs.Prelude.{unwrap_or, nat_eq, find, map}
use Rattle.std.specs.Cmp.Lexicographic.{pointwise}
use Rattle.std.proofs.lemmas.Bool.{eq-eqb}
use Rattle.std.proofs.lemmas.List.Elements.{All-contains}
use Rattle.std.proofs.lemmas.Option.{slice_get-get_or, slice_get_within, unwrap_or-slice_get}
use Rattle.rn_model.proofs.NodesByPath.{node_at-path}
use Rattle.rn_value.specs.declared.value.InstRef.{InstRef}
use Rattle.rn_value.specs.declared.value.InstRef.TheVariants.{Old}
use Rattle.rn_value.specs.declared.value.Value.{Value, out-Value}
use Rattle.rn_value.specs.declared.value.Value.TheOpen as V
use Rattle.rn_value.specs.declared.value.Value.TheVariants as Value
use Rattle.rn_value.specs.Kinds.{HasKind}
use Rattle.rn_value.specs.declared.value.Kind.TheVariants as Kind
use Rattle.rn_model.specs.declared.expr.Expr.{Expr}
use Rattle.rn_model.specs.declared.system.Transition.{Transition}
use Rattle.rn_model.specs.declared.system.ArcKind.{ArcKind}
use Rattle.rn_model.specs.declared.system.ArcKind.TheVariants.{Clear}
use Rattle.rn_model.specs.declared.system.NetArc.{NetArc}
use Rattle.rn_model.specs.declared.binding.Node.{Node}
use Rattle.rn_model.specs.declared.binding.Binding.{Binding}
use Rattle.rn_model.specs.Systems.{net_at, transition_of, empty_transition, place_kind}
use Rattle.rn_model.specs.Evaluation.{worth, IsTrueUnder}
use Rattle.rn_model.specs.Bindings.{IsNodeOf, IsOfCreation, env_of, node_at, HasUplinkOf}
use Rattle.rn_model.specs.Agreement.{ArcAgrees, NodeAgrees, inscribed_kind}
use Rattle.rn_model.specs.Markings.{net_of, tokens}
use Rattle.rn_model.specs.Demands.{Reading, readings, elements, clears, inhibits, asked_by_arc}
use Rattle.rn_model.specs.Demands.{asked_by_node, asked_at}
use Rattle.rn_model.specs.Derivation.{Hole, holes_in, sites_of, entry, found, computed}
use Rattle.rn_model.specs.Derivation.{items_of, finds_values, finds_token, target, term_value_at}
use Rattle.rn_model.specs.Derivation as D
use Rattle.rn_model.proofs.AskedValues.{IsFound, is_found, flat_source, map_source, got_contained}
use Rattle.rn_model.proofs.AskedValues.{contained_flat, contained_mapped, inst_itself, in_ordered}
use Rattle.rn_model.proofs.EnablingLemmas.{not_in_nil, the_one}
use Rattle.rn_model.proofs.EachElement.{at_place}
use Rattle.rn_model.proofs.HoleValues.{list_of_kind}
use Rattle.rn_model.proofs.ItemsOfNodes.{entry_is_item, item_is_of_node}
use Rattle.rn_model.proofs.MarkingsOfRuns.{found_is_there}
use Rattle.rn_model.proofs.OwnValues.{not_awaiting, token_is_value}
use Rattle.rn_model.proofs.ReadConditions.{truths_look_up}
use Rattle.rn_growing.specs.declared.decision.Head.{Head}
use Rattle.rn_growing.specs.declared.decision.Decision.{Decision}
use Rattle.rn_growing.specs.declared.decision.Decision.TheVariants.{Entered, Found, Computed}
use Rattle.rn_growing.specs.Decisions.{head_of, transition_in}
use Rattle.rn_growing.specs.Equations.{read_at}
use Rattle.rn_growing.proofs.Growth.{some_equal, at_in}
use Rattle.rn_growing.proofs.SameUnknowns.{as_site, as_site-is}
use Rattle.rn_channel.specs.Answering.{is_of, answering}
use Rattle.rn_channel.specs.Heights.{CallsNeedLevels, suffices}
use Rattle.rn_search.specs.declared.point.Point.{Point}
use Rattle.rn_search.specs.declared.point.Point.TheVariants as P
use Rattle.rn_search.specs.declared.point.Called.{Called}
use Rattle.rn_search.specs.declared.point.Called.TheVariants.{Kept, Made}
use Rattle.rn_search.specs.Sought.{Sought, Leads}
use Rattle.rn_search.specs.Points.{node_of, tokens_of, first_token, holes_of, instance_of}
use Rattle.rn_search.specs.Points.{net_called, child, offered, nowhere}
use Rattle.rn_search.specs.Missing.{LeadsBy, StartIsOffered, MayStart, StartsAreKept}
use Rattle.rn_search.specs.Missing.{TokensAreOffered, ListsAreOffered, IsKnown, ResultsAreOffered}
use Rattle.rn_search.specs.Missing.{CallsAreOffered, NodesHaveRoom, KnownGuardsHold}
use Rattle.rn_search.specs.Missing.{KnownInhibitorsHold, LeadingIsSolvable}
use Rattle.rn_search.proofs.Following.{its_node, leads_on, own_values, own_solve}
use Rattle.rn_search.proofs.Following.{entered_node}
use Rattle.rn_search.proofs.Items.{found_is_item, computed_is_item}
use Rattle.rn_search.proofs.Alternatives.{has_first, has_answer}
use Rattle.rn_search.proofs.Known.{known_is_so, read_same}
use Rattle.rn_model.specs.declared.system.System.{System}
use Rattle.rn_items.proofs.Numbers.{same_numbers}

-- an alternative that is a decision means it
means : (sought : Sought) (ds : List Decision) (point : Point) (a : ℕ) (d : Decision) (b : Binding)
    → offered sought ds point a ≡ Some d → Leads sought (ds ++ d ∷ []) b →
    LeadsBy sought ds point a b
means sought ds point a d b is leads =
    subst (λ o. Leads sought (ds ++ unwrap_or o (nowhere sought.system) ∷ []) b) (sym is) leads

-- whatever is looked for starts at the start
pub start_is_offered : StartIsOffered
start_is_offered sought b leads =
    let node = leads.starts.0 in
    let there = found_is_there _ b.nodes node leads.starts.1 in
    leads_on sought [] b leads (Entered sought.start None) (entry node)
    (entry_is_item sought.system b node there) (sym leads.starts.2)

test_passes : {X : Type 0} (test : X → Bool) (xs : List X) (x : X) → find test xs ≡ Some x →
    test x ≡ true
test_passes test [] x e = absurd (let no : ⊥ = cc in no)
test_passes test (y ∷ xs) x e = elim (test y) as (λ t. test y ≡ t → test x ≡ true) [
  | true ↦ λ passes.
      let same : y ≡ x = some_equal y x (rw passes at e) in ap test (sym same) ∙ passes
  | false ↦ λ fails. test_passes test xs x (rw fails at e)
] refl

-- each enabled binding starts at a node that may start a firing
pub starts_are_kept : StartsAreKept
starts_are_kept system m b depth enabled =
    let start = enabled.shape.start in
    let node = start.0 in
    let there = found_is_there _ b.nodes node start.1 in
    let of : IsNodeOf system node =
    All-contains (IsNodeOf system) b.nodes node enabled.shape.nodes there in
    let kept = All-contains (λ node. (n : ℕ) → node.inst ≡ Old n → net_of m n ≡ Some node.net)
    b.nodes node enabled.fits.there there in
    let may : MayStart system m (head_of node) = record {
      path = same_numbers node.path []
          (test_passes (λ (n : Node). pointwise nat_eq n.path []) b.nodes node start.1);
      number = start.2.exists.0;
      inst = start.2.exists.1;
      net = kept start.2.exists.0 start.2.exists.1;
      there = of.transition;
      uplink = start.2.uplink;
    } in
    (head_of node, may, (node, start.1, refl))

no_list : (kind : ArcKind) → finds_token kind ≡ true → kind ≡ Clear → ⊥
no_list kind finds is =
    let both : false ≡ true = ap finds_token (sym is) ∙ finds in let no : ⊥ = cc in no

-- the tokens of a node's arc
pub tokens_there : (sought : Sought) (node : Node) (k : ℕ) (x : NetArc) →
    slice_get (transition_of sought.system node).arcs k ≡ Some x → (head : Head) →
    head ≡ head_of node → tokens_of sought head k ≡ tokens sought.marking node.inst x.place
tokens_there sought node k x at head is =
    ap (λ h. tokens_of sought h k) is
    ∙ ap (λ o. unwrap_or (option_map (λ y. tokens sought.marking node.inst y.place) o) []) at

-- the value that an arc of a node finds
module _ (sought : Sought) (ds : List Decision) (b : Binding) (leads : Leads sought ds b)
    (node : Node) (there : Contains b.nodes node) (k : ℕ) (x : NetArc)
    (at : slice_get (transition_of sought.system node).arcs k ≡ Some x)
    (finds : finds_values x.kind ≡ true) where
  abbrev FindsValue : Value → Type 0
  FindsValue v = (worth x.inscription (env_of sought.system node) ≡ Some v)
      × IsFound sought.system b sought.marking node x v

  finds_value : (v : Value) × FindsValue v
  finds_value =
      let own = own_values sought ds b leads in
      let item = found_is_item sought.system b node there k x at finds in
      let holds = own.1.items (found node k x) item in (
        holds.0,
        (
          holds.2,
          is_found sought.system b sought.marking node x holds.0 there
              (got_contained (transition_of sought.system node).arcs k x at) holds.2
              (leads.enabled.fits.places node.inst x.place) finds,
        ),
      )

  finding_leads : (head : Head) (v : Value) → head ≡ head_of node →
      worth x.inscription (env_of sought.system node) ≡ Some v →
      Leads sought (ds ++ Found head k v ∷ []) b
  finding_leads head v is value =
      leads_on sought ds b leads (Found head k v) (found node k x)
      (found_is_item sought.system b node there k x at finds) (is, refl, value)

-- an arc that finds a token finds one of the tokens of its place
pub tokens_are_offered : TokensAreOffered
tokens_are_offered sought ds b node k x leads at finds =
    let head = node_of sought ds node in
    let n = its_node sought ds b leads node in
    let arc : slice_get (transition_of sought.system n.0).arcs k ≡ Some x =
    subst (λ h. slice_get (transition_in sought.system h).arcs k ≡ Some x) n.2 at in
    let values = token_is_value x.kind finds in
    let v = finds_value sought ds b leads n.0 n.1 k x arc values in
    let token : Contains (tokens sought.marking n.0.inst x.place) v.0 =
    elim v.1.1 as (λ _. Contains (tokens sought.marking n.0.inst x.place) v.0) [
      | inl token ↦ token
      | inr list ↦ absurd (no_list x.kind finds list.0)
    ] in
    let listed : Contains (tokens_of sought head k) v.0 =
    subst (λ ts. Contains ts v.0)
    (sym (tokens_there sought n.0 k x arc head n.2)) token in
    let first = has_first (tokens_of sought head k) v.0 listed in
    let place : 0 + first.0 ≡ first.0 = omega arith in
    let is : offered sought ds (P.Token node k 0) first.0 ≡ Some (Found head k v.0) =
    ap (option_map (λ w. Found head k w))
    (ap (first_token (tokens_of sought head k)) place ∙ first.2) in (
      first.0,
      first.1,
      means sought ds (P.Token node k 0) first.0 (Found head k v.0) b is
          (finding_leads sought ds b leads n.0 n.1 k x arc values head v.0 n.2 v.1.0),
    )

-- what an arc asks is asked at its place
asked_there : {A : Type 0} (pick : ArcKind → Value → List A) (system : System) (b : Binding)
    (node : Node) (k : ℕ) (x : NetArc) (v : Value) (one : A) → Contains b.nodes node →
    slice_get (transition_of system node).arcs k ≡ Some x →
    worth x.inscription (env_of system node) ≡ Some v → Contains (pick x.kind v) one →
    Contains (asked_at pick system (readings system b) node.inst x.place) one
asked_there pick system b node k x v one there at is has =
    let r : Reading = record { node = node; env = env_of system node } in
    let arcs = (transition_of system node).arcs in
    let arc = got_contained arcs k x at in
    let place : nat_eq x.place x.place ≡ true = eq-eqb x.place x.place refl in
    let by_arc : Contains (asked_by_arc pick r.env x.place x) one = rw (place, is) has in
    let by_arcs = contained_flat (asked_by_arc pick r.env x.place) arcs x one arc by_arc in
    let by_node : Contains (asked_by_node pick system node.inst x.place r) one =
    rw (inst_itself node.inst) by_arcs in
    contained_flat (asked_by_node pick system node.inst x.place) (readings system b) r one
    (contained_mapped (λ node. record { node = node; env = env_of system node }) b.nodes node
    there)
    by_node

-- the list that a clear arc finds is that of all tokens of its place
finds_all : (sought : Sought) (ds : List Decision) (b : Binding) → Leads sought ds b →
    (node : Node) (k : ℕ) (x : NetArc) (v : Value) → Contains b.nodes node →
    slice_get (transition_of sought.system node).arcs k ≡ Some x →
    worth x.inscription (env_of sought.system node) ≡ Some v → x.kind ≡ Clear →
    elements v ≡ tokens sought.marking node.inst x.place
finds_all sought ds b leads node k x v there at is clear =
    let all = elements v in
    let has : Contains (clears x.kind v) all =
    subst (λ kind. Contains (clears kind v) all) (sym clear) (0, omega arith, refl) in
    let listed = asked_there clears sought.system b node k x v all there at is has in
    let held = tokens sought.marking node.inst x.place in
    elim (leads.enabled.fits.places node.inst x.place).whole as (λ _. all ≡ held) [
      | inl none ↦ absurd (not_in_nil all (subst (λ vs. Contains vs all) none listed))
      | inr one ↦ sym (the_one held all (subst (λ vs. Contains vs all) one.0 listed))
    ]

-- a clear arc finds the list of all tokens of its place
pub lists_are_offered : ListsAreOffered
lists_are_offered sought ds b node k x leads at clear =
    let head = node_of sought ds node in
    let n = its_node sought ds b leads node in
    let arc : slice_get (transition_of sought.system n.0).arcs k ≡ Some x =
    subst (λ h. slice_get (transition_in sought.system h).arcs k ≡ Some x) n.2 at in
    let values : finds_values x.kind ≡ true = ap finds_values clear in
    let agrees : NodeAgrees sought.system n.0 =
    All-contains (NodeAgrees sought.system) b.nodes n.0 leads.enabled.agrees.nodes n.1 in
    let v = finds_value sought ds b leads n.0 n.1 k x arc values in
    let kind = place_kind sought.system n.0.net x.place in
    let valued = at_place (ArcAgrees sought.system n.0) (transition_of sought.system n.0).arcs k x
    agrees.arcs arc (not_awaiting (transition_of sought.system n.0) x x.kind refl values) in
    let same : valued.0 ≡ v.0 = some_equal valued.0 v.0 (sym valued.1 ∙ v.1.0) in
    let of_kind : HasKind v.0 (Kind.List kind) =
    subst (λ k. HasKind v.0 (inscribed_kind k kind)) clear
    (subst (λ w. HasKind w (inscribed_kind x.kind kind)) same valued.2) in
    let list : elements v.0 ≡ tokens sought.marking n.0.inst x.place =
    finds_all sought ds b leads n.0 k x v.0 n.1 arc v.1.0 clear in
    let is : Value.List (tokens_of sought head k) ≡ v.0 =
    ap (λ ts. Value.List ts) (tokens_there sought n.0 k x arc head n.2 ∙
    sym list)
    ∙ list_of_kind v.0 kind of_kind in
    means sought ds (P.List node k) 0 (Found head k v.0) b (ap (λ w. Some (Found head k w)) is)
    (finding_leads sought ds b leads n.0 n.1 k x arc values head v.0 n.2 v.1.0)

-- an operator application of a transition is one at some site
pub at_site : (t : Transition) (k : ℕ) (hole : D.Site × Hole) → slice_get (holes_of t) k ≡ Some
    hole →
    (e : Expr) × Contains (sites_of t) (hole.0, e) × Contains (holes_in e) hole.1
at_site t k hole at =
    let flat = flat_source (λ s. map (λ (h : Hole). (s.0, h)) (holes_in s.1)) (sites_of t) hole
    (at_in (holes_of t) k hole at) in
    let of = map_source (λ (h : Hole). (flat.0.0, h)) (holes_in flat.0.1) hole flat.2 in
    let site : flat.0.0 ≡ hole.0 = ap (λ p. p.0) of.2 in
    let form : of.0 ≡ hole.1 = ap (λ p. p.1) of.2 in (
      flat.0.1,
      subst (λ s. Contains (sites_of t) (s, flat.0.1)) site flat.1,
      subst (Contains (holes_in flat.0.1)) form of.1,
    )

read_as : (o : Option Value) (v w : Value) → o ≡ Some v → v ≡ w → o ≡ Some w
read_as o v w e is = e ∙ ap Some is

-- an operator application that is known has a value, a whole number, and that is it
pub results_are_offered : ResultsAreOffered
results_are_offered sought ds b node k hole env leads turns some at known =
    let head = node_of sought ds node in
    let system = sought.system in
    let n = its_node sought ds b leads node in
    let there : slice_get (holes_of (transition_of system n.0)) k ≡ Some hole =
    subst (λ h. slice_get (holes_of (transition_in system h)) k ≡ Some hole) n.2 at in
    let site = at_site (transition_of system n.0) k hole there in
    let item = computed n.0 hole.0 hole.1 in
    let own = own_values sought ds b leads in
    let is_item : Contains (items_of system b) item =
    computed_is_item system b n.0 n.1 hole.0 site.0 hole.1 site.1 site.2 in
    let value = own.0.hole n.0.path hole.0 hole.1.way in
    let holds : worth hole.1.form (env_of system n.0) ≡ Some value = own.1.items item is_item in
    let int = (item_is_of_node system b item is_item).1 (env_of system n.0) value holds in
    let known_there : IsKnown system ds (head_of n.0) hole.1.form env =
    subst (λ h. IsKnown system ds h hole.1.form env) n.2 known in
    let same = known_is_so sought ds b n.0 hole.1.form env leads turns some n.1 known_there in
    let read = read_as (worth hole.1.form (env_of system n.0)) value (Value.Int int.0) holds
    int.1 in
    let d : Decision = Computed head (as_site hole.0) hole.1.way (Value.Int int.0) in
    let offered_is : offered sought ds (P.Result node k int.0) 0 ≡ Some d = rw at refl in (
      int.0,
      same ∙ read,
      means sought ds (P.Result node k int.0) 0 d b offered_is
          (leads_on sought ds b leads d item is_item (n.2, as_site-is hole.0, refl, read)),
    )

inst_in : V.Value-F Value → Option InstRef
inst_in (V.Inst i) = Some i
inst_in _ = None

same_inst : (i j : InstRef) → Value.Inst i ≡ Value.Inst j → i ≡ j
unfolding inst_in
same_inst i j e =
    let names : (k : InstRef) → inst_in (out-Value (Value.Inst k)) ≡ Some k =
    λ k. rw (Value.outs-Inst k) in
    some_equal i j (sym (names i) ∙ ap (λ v. inst_in (out-Value v)) e ∙ names j)

-- a child is among the transitions that answer
module _ (sought : Sought) (ds : List Decision) (b : Binding) (leads : Leads sought ds b)
    (c : Node) (there : Contains b.nodes c) where
  net_is : (called : Called) → instance_of sought ds called ≡ c.inst →
      net_called sought ds called ≡ Some c.net
  net_is (Kept m) is =
      All-contains (λ node. (n : ℕ) → node.inst ≡ Old n → net_of sought.marking n ≡ Some node.net)
      b.nodes c leads.enabled.fits.there there m (sym is)
  net_is (Made k j) is =
      let system = sought.system in
      let n = its_node sought ds b leads k in
      let path = ap (λ h. h.path) n.2 in
      let made = All-contains (IsOfCreation system b) b.nodes c leads.enabled.shape.created there
      (node_of sought ds k).path j (sym is) in
      let same : made.0 ≡ n.0 =
      some_equal made.0 n.0
      (sym made.2 ∙ ap (node_at b) path
      ∙ node_at-path system b sought.depth n.0 leads.enabled.shape n.1) in
      let at : slice_get (transition_in system (node_of sought ds k)).creations j ≡ Some made.1 =
      ap (λ h. slice_get (transition_in system h).creations j) (n.2 ∙ ap head_of (sym same))
      ∙ made.3 in
      ap (option_map (λ e. e.net)) at ∙ ap Some (sym made.4)

  answers_at : (channel : ℕ) → HasUplinkOf sought.system c channel →
      (a : ℕ) × (slice_get (answering sought.system c.net channel) a ≡ Some c.transition)
  answers_at channel (u, has, is) =
      let transitions = (net_at sought.system c.net).transitions in
      let of : IsNodeOf sought.system c =
      All-contains (IsNodeOf sought.system) b.nodes c leads.enabled.shape.nodes there in
      let at : slice_get transitions c.transition ≡ Some (transition_of sought.system c) =
      slice_get-get_or transitions c.transition empty_transition of.transition
      ∙ ap Some (sym (unwrap_or-slice_get transitions c.transition empty_transition)) in
      let answer = has_answer channel 0 transitions c.transition (transition_of sought.system c) at
      (ap (is_of channel) has ∙ eq-eqb u.channel channel is) in
      let place : 0 + c.transition ≡ c.transition = omega arith in
      (answer.0, answer.1 ∙ ap Some place)

-- the child at a downlink with a forced target is by a transition that answers it
pub calls_are_offered : CallsAreOffered
calls_are_offered sought ds b node i downlink called leads turns some at forced =
    let system = sought.system in
    let head = node_of sought ds node in
    let inst = instance_of sought ds called in
    let n = its_node sought ds b leads node in
    let link : slice_get (transition_of system n.0).downlinks i ≡ Some downlink =
    subst (λ h. slice_get (transition_in system h).downlinks i ≡ Some downlink) n.2 at in
    let callee = leads.enabled.shape.children n.0 i downlink n.1 link in
    let c = callee.0 in
    let own = own_values sought ds b leads in
    let told : term_value_at own.0 n.0 (target i) downlink.target ≡ Some (Value.Inst inst) =
    subst (λ h. read_at own.0 h (target i) downlink.target ≡ Some (Value.Inst inst)) n.2
    (forced own.0 (own_solve sought ds b leads turns)) in
    let is : inst ≡ c.inst =
    same_inst inst c.inst (some_equal (Value.Inst inst) (Value.Inst c.inst)
    (sym told ∙ own.1.targets n.0 i downlink c callee.1)) in
    let there = callee.1.node_there in
    let net = net_is sought ds b leads c there called is in
    let answer = answers_at sought ds b leads c there downlink.channel callee.2 in
    let d = child head i inst c.net c.transition in
    let path : head.path ++ i ∷ [] ≡ c.path =
    ap (λ h. h.path ++ i ∷ []) n.2 ∙ sym callee.1.path in
    let head_is : record {
      path = head.path ++ i ∷ [];
      inst = inst;
      net = c.net;
      transition =
          c.transition;
    }
    ≡ head_of c =
    ap (λ p. record { path = p; inst = inst; net = c.net; transition = c.transition }) path
    ∙ ap (λ j. record { path = c.path; inst = j; net = c.net; transition = c.transition }) is in
    let offered_is : offered sought ds (P.Call node i called) answer.0 ≡ Some d =
    rw (net, at, answer.1) refl in (
      c.net,
      answer.0,
      net,
      slice_get_within (answering system c.net downlink.channel) answer.0 c.transition answer.1,
      means sought ds (P.Call node i called) answer.0 d b offered_is
          (leads_on sought ds b leads d (entry c) (entry_is_item system b c there) head_is),
    )

pub nodes_have_room : CallsNeedLevels → NodesHaveRoom
nodes_have_room needed sought ds b head good leads entered =
    let n = entered_node sought.system b ds leads.follows.0 leads.follows.1 head entered in
    let shape = leads.enabled.shape in
    let deep = All-contains (λ node. length node.path ≤ sought.depth) b.nodes n.0 shape.deep n.1 in
    subst (λ h. (length h.path ≤ sought.depth) × (suffices sought.system
    (sought.depth - length h.path) (transition_in sought.system h) ≡ true)) (sym n.2)
    (deep, needed sought.system b sought.depth n.0 good shape n.1)

-- a guard of an entered node is true, where it is known
pub known_guards_hold : KnownGuardsHold
known_guards_hold sought ds b head guard env leads turns some entered there known =
    let system = sought.system in
    let n = entered_node system b ds leads.follows.0 leads.follows.1 head entered in
    let node = n.0 in
    let agrees : NodeAgrees system node =
    All-contains (NodeAgrees system) b.nodes node leads.enabled.agrees.nodes n.1 in
    let guard_there : Contains (transition_of system node).guards guard =
    subst (λ h. Contains (transition_in system h).guards guard) n.2 there in
    let holds = All-contains (IsTrueUnder (env_of system node)) (transition_of system node).guards
    guard agrees.guards guard_there in
    truths_look_up guard env (env_of system node)
    (λ e side. read_same sought ds b node e env leads turns some n.1
    (subst (λ h. IsKnown system ds h e env) n.2 (known e side)))
    ∙ holds

-- the place of an inhibitor arc of such a node doesn't hold the token that is known of it
pub known_inhibitors_hold : KnownInhibitorsHold
known_inhibitors_hold sought ds b head k x v env leads turns some entered at inhibits_it known is
    held =
    let system = sought.system in
    let n = entered_node system b ds leads.follows.0 leads.follows.1 head entered in
    let node = n.0 in
    let arc : slice_get (transition_of system node).arcs k ≡ Some x =
    subst (λ h. slice_get (transition_in system h).arcs k ≡ Some x) n.2 at in
    let same = known_is_so sought ds b node x.inscription env leads turns some n.1
    (subst (λ h. IsKnown system ds h x.inscription env) n.2 known) in
    let has : Contains (inhibits x.kind v) v =
    subst (λ kind. Contains (inhibits kind v) v) (sym inhibits_it) (0, omega arith, refl) in
    let asked = asked_there inhibits system b node k x v v n.1 arc (sym same ∙ is) has in
    let tokens_are : tokens_of sought head k ≡ tokens sought.marking node.inst x.place =
    tokens_there sought node k x arc head n.2 in
    (leads.enabled.fits.places node.inst x.place).absent v
    (in_ordered v (asked_at inhibits system (readings system b) node.inst x.place) asked)
    (subst (λ ts. Contains ts v) tokens_are held)

-- the equations of decisions that lead to a binding can be satisfied
pub leading_is_solvable : LeadingIsSolvable
leading_is_solvable sought ds b leads turns =
    ((own_values sought ds b leads).0, own_solve sought ds b leads turns)
