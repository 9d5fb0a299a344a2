-- Bindings that follow decisions.
use Rattle.std.proofs.Common.{◌≡◌, ℕ, List, [], ◌∷◌, ◌++◌, length, refl, sym, ap, ◌∙◌, subst}
use Rattle.std.proofs.Common.{arith}
use Rattle.std.specs.Prelude.{Option, Some, None, slice_get, Contains, option_map, unwrap_or}
use Rattle.std.proofs.lemmas.List.Elements.{All-contains}
use Rattle.rn_value.specs.declared.value.Value.{Value}
use Rattle.rn_model.specs.declared.system.System.{System}
use Rattle.rn_model.specs.declared.binding.Node.{Node}
use Rattle.rn_model.specs.declared.binding.Binding.{Binding}
use Rattle.rn_model.specs.Systems.{transition_of}
use Rattle.rn_model.specs.Evaluation.{worth}
use Rattle.rn_model.specs.Bindings.{Shape, IsNodeOf, env_of}
use Rattle.rn_model.specs.Derivation.{Item, entry, found, computed, items_of, Assignment}
use Rattle.rn_model.specs.DerivationLaws.{AreOwnValues}
use Rattle.rn_model.proofs.OwnValues.{own_values_satisfy}
use Rattle.rn_model.proofs.MarkingsOfRuns.{found_is_there}
use Rattle.rn_growing.specs.declared.decision.Head.{Head}
use Rattle.rn_growing.specs.declared.decision.Caller.{Caller}
use Rattle.rn_growing.specs.declared.decision.Decision.{Decision}
use Rattle.rn_growing.specs.declared.decision.Decision.TheVariants.{Entered, Found, Computed}
use Rattle.rn_growing.specs.Decisions.{head_of, IsOn, AreOn}
use Rattle.rn_growing.specs.Equations.{Solves}
use Rattle.rn_growing.specs.Turns.{IsEntered, AreInTurn}
use Rattle.rn_growing.proofs.Followers.{On, item_in, decision_in, same_node, equations}
use Rattle.rn_growing.proofs.Growth.{some_equal, contains_last, at_in}
use Rattle.rn_growing.proofs.Followers.{follows_on}
use Rattle.rn_growing.proofs.SoundItems.{items_sound}
use Rattle.rn_search.specs.Sought.{Sought, Leads}
use Rattle.rn_search.specs.Points.{node_on, node_of, nowhere}
use Rattle.rn_search.specs.Missing.{FewerLead, OneStart}

-- the node of an item
abbrev pub node_in : Item → Node
node_in (entry node) = node
node_in (found node k x) = node
node_in (computed node site hole) = node

module _ (system : System) (b : Binding) where
  pub item_node : (item : Item) → Contains (items_of system b) item →
      Contains b.nodes (node_in item)
  item_node (entry node) own = items_sound system b (entry node) own
  item_node (found node k x) own = (items_sound system b (found node k x) own).0
  item_node (computed node site hole) own = (items_sound system b (computed node site hole) own).0

  pub on_its_node : (d : Decision) (item : Item) → On system b d item →
      node_on d ≡ head_of (node_in item)
  on_its_node (Entered head caller) (entry node) on = on.1
  on_its_node (Entered head caller) (found node k x) on = absurd on.1
  on_its_node (Entered head caller) (computed node site hole) on = absurd on.1
  on_its_node (Found head k v) (entry node) on = absurd on.1
  on_its_node (Found head k v) (found node j x) on = on.1.0
  on_its_node (Found head k v) (computed node site hole) on = absurd on.1
  on_its_node (Computed head site way v) (entry node) on = absurd on.1
  on_its_node (Computed head site way v) (found node j x) on = absurd on.1
  on_its_node (Computed head site way v) (computed node s hole) on = on.1.0

  -- a node of the binding
  abbrev pub HasNode : Head → Type 0
  HasNode head = (node : Node) × Contains b.nodes node × (head ≡ head_of node)

  pub decided_node : (ds : List Decision) (items : List Item) → AreOn system b ds items →
      (d : Decision) → Contains ds d → HasNode (node_on d)
  decided_node ds items on d there =
      let it = item_in system b ds items on d there in
      (node_in it.0, item_node it.0 it.2.0, on_its_node d it.0 it.2)

  pub entered_node : (ds : List Decision) (items : List Item) → AreOn system b ds items →
      (head : Head) → IsEntered ds head → HasNode head
  entered_node ds items on head (caller, there) =
      decided_node ds items on (Entered head caller) there

  -- the last decision is on an item of the binding
  pub last_on : (ds : List Decision) (items : List Item) (d : Decision) →
      AreOn system b (ds ++ d ∷ []) items → (item : Item) × On system b d item
  last_on ds items d on =
      let it = item_in system b (ds ++ d ∷ []) items on d (contains_last ds d) in (it.0, it.2)

  pub front_on : (ds more : List Decision) (items : List Item) →
      AreOn system b (ds ++ more) items → (front : List Item) × AreOn system b ds front
  front_on [] more items on = ([], tt)
  front_on (d ∷ ds) more [] on = absurd on
  front_on (d ∷ ds) more (item ∷ items) on =
      let rest = front_on ds more items on.1 in (item ∷ rest.0, (on.0, rest.1))

  module _ (depth : ℕ) (shape : Shape system b depth) where
    -- a decision's value is that of the item
    pub one_value : (head : Head) (k : ℕ) (v w : Value) (one other : Item) →
        On system b (Found head k v) one → On system b (Found head k w) other → v ≡ w
    one_value head k v w (found n i x) (found m j y) first second =
        let left = items_sound system b (found n i x) first.0 in
        let right = items_sound system b (found m j y) second.0 in
        let nodes : n ≡ m = same_node system b depth shape n m left.0 right.0
        (ap (λ h. h.path) (sym first.1.0 ∙ second.1.0)) in
        let places : i ≡ j = sym first.1.1 ∙ second.1.1 in
        let at : slice_get (transition_of system m).arcs j ≡ Some x =
        subst (λ q. slice_get (transition_of system m).arcs q ≡ Some x) places
        (subst (λ p. slice_get (transition_of system p).arcs i ≡ Some x) nodes left.1) in
        let arcs : x ≡ y = some_equal x y (sym at ∙ right.1) in
        let value : worth y.inscription (env_of system m) ≡ Some v =
        subst (λ z. worth z.inscription (env_of system m) ≡ Some v) arcs
        (subst (λ p. worth x.inscription (env_of system p) ≡ Some v) nodes first.1.2) in
        some_equal v w (sym value ∙ second.1.2)
    one_value head k v w (entry n) other first second = absurd first.1
    one_value head k v w (computed n site hole) other first second = absurd first.1
    one_value head k v w (found n i x) (entry m) first second = absurd second.1
    one_value head k v w (found n i x) (computed m site hole) first second = absurd second.1

    pub one_head : (head other : Head) (caller from : Option Caller) (one two : Item) →
        On system b (Entered head caller) one → On system b (Entered other from) two →
        head.path ≡ other.path → head ≡ other
    one_head head other caller from (entry n) (entry m) first second path =
        let nodes : n ≡ m = same_node system b depth shape n m
        (items_sound system b (entry n) first.0) (items_sound system b (entry m) second.0)
        (ap (λ h. h.path) (sym first.1) ∙ path ∙ ap (λ h. h.path) second.1) in
        first.1 ∙ ap head_of nodes ∙ sym second.1
    one_head head other caller from (found n k x) two first second path = absurd first.1
    one_head head other caller from (computed n site hole) two first second path =
        absurd first.1
    one_head head other caller from (entry n) (found m k x) first second path = absurd second.1
    one_head head other caller from (entry n) (computed m site hole) first second path =
        absurd second.1

    -- no binding is nowhere
    pub never_nowhere : (item : Item) → ¬ On system b (nowhere system) item
    never_nowhere (entry node) on =
        let of : IsNodeOf system node =
        All-contains (IsNodeOf system) b.nodes node shape.nodes
        (items_sound system b (entry node) on.0) in
        let net : length system.nets ≡ node.net = ap (λ h. h.net) on.1 in
        let within = of.net in
        let no : ⊥ = omega (arith, net, within) in no
    never_nowhere (found node k x) on = absurd on.1
    never_nowhere (computed node site hole) on = absurd on.1

    -- an alternative that is on an item of the binding is a decision
    pub is_decision : (o : Option Decision) (item : Item) →
        On system b (unwrap_or o (nowhere system)) item →
        (d : Decision) × (o ≡ Some d) × On system b d item
    is_decision None item on = absurd (never_nowhere item on)
    is_decision (Some d) item on = (d, refl, on)

module _ (sought : Sought) (ds : List Decision) (b : Binding)
    (leads : Leads sought ds b) where
  -- the node of a decision is one of the binding
  pub its_node : (k : ℕ) → HasNode sought.system b (node_of sought ds k)
  its_node k = by (slice_get ds k) refl
    where
      by : (o : Option Decision) → slice_get ds k ≡ o →
          HasNode sought.system b (unwrap_or (option_map node_on o) sought.start)
      by (Some d) e =
          decided_node sought.system b ds leads.follows.0 leads.follows.1 d (at_in ds k d e)
      by None e =
          let start = leads.starts in
          (start.0, found_is_there _ b.nodes start.0 start.1, sym start.2)

  -- it goes on with a decision on one of its items
  pub leads_on : (d : Decision) (item : Item) → Contains (items_of sought.system b) item →
      IsOn sought.system d item → Leads sought (ds ++ d ∷ []) b
  leads_on d item own is = record {
    enabled = leads.enabled;
    starts = leads.starts;
    follows = (
      leads.follows.0 ++ item ∷ [],
      follows_on sought.system b ds leads.follows.0 d item leads.follows.1 own is,
    );
  }

  -- values of the binding's own, which satisfy what the decisions bring
  pub own_values : (own : Assignment) × AreOwnValues sought.system b own
  own_values =
      own_values_satisfy sought.system b sought.depth leads.enabled.shape leads.enabled.agrees

  -- these solve what the decisions bring
  pub own_solve : AreInTurn sought.system ds → Solves sought.system ds own_values.0
  own_solve turns =
      (equations sought.system b sought.depth leads.enabled.shape ds leads.follows.0
      leads.follows.1 turns own_values.0).0
      (λ item there. own_values.1.items item
      (decision_in sought.system b ds leads.follows.0 leads.follows.1 item there).2.0)

-- what decisions lead to, fewer of them lead to
pub fewer_lead : FewerLead
fewer_lead sought ds more b leads = record {
  enabled = leads.enabled;
  starts = leads.starts;
  follows = front_on sought.system b ds more leads.follows.0 leads.follows.1;
}

-- no binding starts at two nodes
pub one_start : OneStart
one_start b start other (node, at, is) (also, there, too) =
    sym is ∙ ap head_of (some_equal node also (sym at ∙ there)) ∙ too
