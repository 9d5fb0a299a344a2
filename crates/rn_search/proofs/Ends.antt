-- The end of a branch: where it is stuck it leads to nothing, and where nothing is left, what
-- follows is derived.
use Rattle.std.proofs.Common.{◌≡◌, ℕ, zero, suc, ◌<◌, ◌≤◌, List, [], ◌∷◌, ◌++◌, length, refl}
use Rattle.std.proofs.Common.{sym, ap}
use Rattle.std.proofs.Common.{◌∙◌, subst, arith, length-append}
use Rattle.std.specs.Prelude.{Option, Some, None, slice_get, Contains, All, ◌≢◌}
use Rattle.std.proofs.lemmas.List.Elements.{All-contains, All-contains_itself}
use Rattle.rn_value.specs.declared.value.Value.{Value}
use Rattle.rn_value.specs.declared.value.Value.TheVariants as Value
use Rattle.rn_model.specs.declared.system.System.{System}
use Rattle.rn_model.specs.declared.system.NetArc.{NetArc}
use Rattle.rn_model.specs.declared.system.Downlink.{Downlink}
use Rattle.rn_model.specs.declared.binding.Node.{Node}
use Rattle.rn_model.specs.declared.binding.Binding.{Binding}
use Rattle.rn_model.specs.Systems.{transition_of}
use Rattle.rn_model.specs.Bindings.{Shape, Calls, IsCalled}
use Rattle.rn_model.specs.Derivation.{Hole, Item, entry, found, computed, items_of}
use Rattle.rn_model.specs.Derivation as D
use Rattle.rn_model.specs.RoundLaws.{AreAll, ForceAll}
use Rattle.rn_model.proofs.ItemsOfNodes.{entry_is_item}
use Rattle.rn_model.proofs.Rounds.{all_more}
use Rattle.rn_growing.specs.declared.decision.Site.{Site}
use Rattle.rn_growing.specs.declared.decision.Head.{Head}
use Rattle.rn_growing.specs.declared.decision.Caller.{Caller}
use Rattle.rn_growing.specs.declared.decision.Decision.{Decision}
use Rattle.rn_growing.specs.declared.decision.Decision.TheVariants.{Entered, Found, Computed}
use Rattle.rn_growing.specs.Decisions.{head_of, site_of, transition_in, AreOn}
use Rattle.rn_growing.specs.Turns.{MayCome, IsEntered, IsVarForced, IsHole, AreInTurn}
use Rattle.rn_growing.specs.Turns.{AreClosed, SameThing}
use Rattle.rn_growing.proofs.Followers.{On, item_in, decision_in, forced_over, entered_by}
use Rattle.rn_growing.proofs.Followers.{same_node, closed_entry, closed_found, closed_computed}
use Rattle.rn_growing.proofs.Followers.{closed_decisions_decide, followers_are_decided}
use Rattle.rn_growing.proofs.Growth.{at_in}
use Rattle.rn_growing.proofs.SameUnknowns.{as_site, as_site-is}
use Rattle.rn_growing.proofs.SoundItems.{items_sound}
use Rattle.rn_search.specs.Sought.{Sought, Leads}
use Rattle.rn_search.specs.Ending.{IsDecided, IsAsked, AreDone, AreForced, StuckLeadsNowhere}
use Rattle.rn_search.specs.Ending.{LeadingForces, DoneAreClosed, FoundIsSo}
use Rattle.rn_search.proofs.Following.{entered_node}
use Rattle.rn_search.proofs.Items.{found_is_item, computed_is_item}

-- What is on an item is on the thing of each decision for that item.
module _ (system : System) (b : Binding) where
  thing_of_entry : (head : Head) (caller : Option Caller) (node : Node) →
      head.path ≡ node.path → (e : Decision) → On system b e (entry node) →
      SameThing (Entered head caller) e
  thing_of_entry head caller node path (Entered other from) on =
      path ∙ sym (ap (λ h. h.path) on.1)
  thing_of_entry head caller node path (Found other j w) on = absurd on.1
  thing_of_entry head caller node path (Computed other at along w) on = absurd on.1

  thing_of_found : (head : Head) (k : ℕ) (v : Value) (node : Node) (x : NetArc) →
      head.path ≡ node.path → (e : Decision) → On system b e (found node k x) →
      SameThing (Found head k v) e
  thing_of_found head k v node x path (Found other j w) on =
      (path ∙ sym (ap (λ h. h.path) on.1.0), sym on.1.1)
  thing_of_found head k v node x path (Entered other from) on = absurd on.1
  thing_of_found head k v node x path (Computed other at along w) on = absurd on.1

  thing_of_computed : (head : Head) (site : Site) (way : List ℕ) (v : Value) (node : Node)
      (hole : Hole) → head.path ≡ node.path → hole.way ≡ way → (e : Decision) →
      On system b e (computed node (site_of site) hole) → SameThing (Computed head site way v) e
  thing_of_computed head site way v node hole path way_is (Computed other at along w) on =
      (path ∙ sym (ap (λ h. h.path) on.1.0), sym on.1.1, sym way_is ∙ sym on.1.2)
  thing_of_computed head site way v node hole path way_is (Entered other from) on = absurd on.1
  thing_of_computed head site way v node hole path way_is (Found other j w) on = absurd on.1

  -- each item that is asked is one of the binding, on the same thing
  abbrev IsItem : Decision → Type 0
  IsItem d = (item : Item) × Contains (items_of system b) item
      × ((e : Decision) → On system b e item → SameThing d e)

  module _ (depth : ℕ) (shape : Shape system b depth) (ds : List Decision) (items : List Item)
      (on : AreOn system b ds items) where
    asked_item : (d : Decision) → IsAsked system ds d → IsItem d
    asked_item (Entered head None) asked = absurd asked
    asked_item (Entered head (Some from)) (entered, (downlink, at, path)) =
        let n = entered_node system b ds items on from.head entered in
        let link : slice_get (transition_of system n.0).downlinks from.downlink ≡ Some downlink =
        subst (λ h. slice_get (transition_in system h).downlinks from.downlink ≡ Some downlink) n.2
        at in
        let c = shape.children n.0 from.downlink downlink n.1 link in
        let same : head.path ≡ c.0.path =
        path ∙ ap (λ h. h.path ++ from.downlink ∷ []) n.2 ∙ sym c.1.path in (
          entry c.0,
          entry_is_item system b c.0 c.1.node_there,
          thing_of_entry head (Some from) c.0 same,
        )
    asked_item (Found head k v) (entered, (x, at, finds)) =
        let n = entered_node system b ds items on head entered in
        let arc : slice_get (transition_of system n.0).arcs k ≡ Some x =
        subst (λ h. slice_get (transition_in system h).arcs k ≡ Some x) n.2 at in (
          found n.0 k x,
          found_is_item system b n.0 n.1 k x arc finds,
          thing_of_found head k v n.0 x (ap (λ h. h.path) n.2),
        )
    asked_item (Computed head site way v) (entered, (hole, way_is, is)) =
        let n = entered_node system b ds items on head entered in
        let there : IsHole system (head_of n.0) (site_of site) hole =
        subst (λ h. IsHole system h (site_of site) hole) n.2 is in (
          computed n.0 (site_of site) hole,
          computed_is_item system b n.0 n.1 (site_of site) there.0 hole there.1 there.2,
          thing_of_computed head site way v n.0 hole (ap (λ h. h.path) n.2) way_is,
        )

module _ (sought : Sought) (ds : List Decision) (b : Binding) (turns : AreInTurn sought.system ds)
    (some : 0 < length ds) (closed : AreClosed sought.system ds) (leads : Leads sought ds b) where
  -- where nothing may come in, all items of what follows are decided, and they force its variables
  all_in : AreAll sought.system b leads.follows.0 × ForceAll sought.system b leads.follows.0
  all_in =
      (closed_decisions_decide sought.system b sought.depth ds leads.follows.0 leads.enabled.shape
      leads.follows.1 turns some closed).0 leads.enabled.derived

  asked_are_decided : (d : Decision) → IsAsked sought.system ds d → IsDecided ds d
  asked_are_decided d asked =
      let items = leads.follows.0 in
      let on = leads.follows.1 in
      let it = asked_item sought.system b sought.depth leads.enabled.shape ds items on d asked in
      let inside = All-contains (Contains items) (items_of sought.system b) it.0 all_in.0 it.1 in
      let e = decision_in sought.system b ds items on it.0 inside in
      (e.0, e.1, it.2 e.0 e.2)

  all_forced : AreForced sought.system ds
  all_forced head entered =
      let items = leads.follows.0 in
      let on = leads.follows.1 in
      let system = sought.system in
      let n = entered_node system b ds items on head entered in
      let force = All-contains
      (λ node. All (D.IsVarForced system b (Contains items) node) (transition_of system node).vars)
      b.nodes n.0 all_in.1 n.1 in
      let forced : All (IsVarForced system ds (head_of n.0)) (transition_of system n.0).vars =
      all_more (D.IsVarForced system b (Contains items) n.0) (IsVarForced system ds (head_of n.0))
      (transition_of system n.0).vars
      (λ x f. (forced_over system b sought.depth leads.enabled.shape ds items on turns
      (λ a. Some (a.var n.0.path x))).1 f) force in
      subst (λ h. All (IsVarForced system ds h) (transition_in system h).vars) (sym n.2) forced

-- where nothing may come in, and something is asked and not decided, decisions lead to nothing
pub stuck_leads_nowhere : StuckLeadsNowhere
stuck_leads_nowhere sought ds d turns some closed asked never b leads =
    never (asked_are_decided sought ds b turns some closed leads d asked)

-- whatever may come in is asked
pub may_is_asked : (system : System) (ds : List Decision) → 0 < length ds → (d : Decision) →
    MayCome system ds d → IsAsked system ds d
may_is_asked system ds some (Entered head None) may =
    absurd (let none = ap length may.0 in let no : ⊥ = omega (arith, none, some) in no)
may_is_asked system ds some (Entered head (Some from)) may =
    (may.entered, (may.downlink, may.there, may.path))
may_is_asked system ds some (Found head k v) may = may
may_is_asked system ds some (Computed head site way v) may =
    (may.0, (may.1.0, may.1.1, may.1.2))

pub done_are_closed : DoneAreClosed
done_are_closed system ds some done d may = done d (may_is_asked system ds some d may)

-- where nothing is left, and decisions lead to a binding, they force the variables
pub leading_forces : LeadingForces
leading_forces sought ds b turns some done leads =
    all_forced sought ds b turns some (done_are_closed sought.system ds some done) leads

-- Where nothing is left, each item of a binding that follows is decided.
module _ (system : System) (b : Binding) (depth : ℕ) (shape : Shape system b depth)
    (ds : List Decision) (items : List Item) (on : AreOn system b ds items)
    (turns : AreInTurn system ds) (some : 0 < length ds) (done : AreDone system ds) where
  abbrev In : Node → Type 0
  In node = Contains items (entry node)

  is_entered : (node : Node) → In node → IsEntered ds (head_of node)
  is_entered node inside =
      let d = decision_in system b ds items on (entry node) inside in
      entered_by system b depth shape ds d.0 node d.1 d.2

  start_in : (node : Node) → Contains b.nodes node → node.path ≡ [] → In node
  start_in node there path =
      let say = followers_are_decided system b depth ds items shape on turns some in
      let start = say.come.start in
      let same : start.0 ≡ node =
      same_node system b depth shape start.0 node start.1 there (start.2 ∙ sym path) in
      subst In same (at_in items 0 (entry start.0) start.3)

  child_in : (c : Node) (i : ℕ) (downlink : Downlink) (node : Node) →
      Calls system b c i downlink node → In c → In node
  child_in c i downlink node calls inside =
      let by : Caller = record { head = head_of c; downlink = i } in
      let d : Decision = Entered (head_of node) (Some by) in
      let other = done d (is_entered c inside, (downlink, calls.downlink_there, calls.path)) in
      let it = item_in system b ds items on other.0 other.1 in
      closed_entry system b depth shape items (head_of node) (Some by) node calls.node_there refl
      other.0 it.0 other.2 it.1 it.2

  -- by the length of the path
  by_path : (node : Node) → Contains b.nodes node → (path : List ℕ) → node.path ≡ path →
      ((c : Node) → Contains b.nodes c → length c.path < length node.path → In c) → In node
  by_path node there [] path ih = start_in node there path
  by_path node there (i ∷ rest) path ih =
      let called : IsCalled system b node =
      All-contains (λ node. node.path ≢ [] → IsCalled system b node) b.nodes node shape.called
      there
      (λ none. let both : i ∷ rest ≡ [] = sym path ∙ none in let no : ⊥ = cc in no) in
      let calls = called.3 in
      let long = ap length calls.path in
      let whole = length-append called.0.path (called.1 ∷ []) in
      child_in called.0 called.1 called.2 node calls
      (ih called.0 calls.caller_there (omega (arith, long, whole)))

  nodes_in : (n : ℕ) (node : Node) → Contains b.nodes node → length node.path ≤ n → In node
  nodes_in zero node there short =
      by_path node there node.path refl
      (λ c in_b less. absurd (let no : ⊥ = omega (arith, short, less) in no))
  nodes_in (suc n) node there short =
      by_path node there node.path refl
      (λ c in_b less. nodes_in n c in_b (omega (arith, short, less)))

  pub node_in_them : (node : Node) → Contains b.nodes node → In node
  node_in_them node there = nodes_in (length node.path) node there (omega arith)

  pub entered_in_them : (node : Node) → Contains b.nodes node → IsEntered ds (head_of node)
  entered_in_them node there = is_entered node (node_in_them node there)

  item_in_them : (item : Item) → Contains (items_of system b) item → Contains items item
  item_in_them (entry node) own =
      node_in_them node (items_sound system b (entry node) own)
  item_in_them (found node k x) own =
      let sound = items_sound system b (found node k x) own in
      let entered = entered_in_them node sound.0 in
      let v : Value = Value.Tuple [] in
      let other = done (Found (head_of node) k v) (entered, (x, sound.1, sound.2)) in
      let it = item_in system b ds items on other.0 other.1 in
      closed_found system b depth shape items k v node x own other.0 it.0 other.2 it.1 it.2
  item_in_them (computed node s hole) own =
      let sound = items_sound system b (computed node s hole) own in
      let entered = entered_in_them node sound.0 in
      let v : Value = Value.Tuple [] in
      let is : IsHole system (head_of node) (site_of (as_site s)) hole =
      subst (λ t. IsHole system (head_of node) t hole) (sym (as_site-is s)) sound.1 in
      let other = done (Computed (head_of node) (as_site s) hole.way v) (
        entered,
        (
          hole,
          refl,
          is,
        ),
      ) in
      let it = item_in system b ds items on other.0 other.1 in
      closed_computed system b depth shape items (as_site s) v node s hole (as_site-is s) own
      other.0
      it.0 other.2 it.1 it.2

  all_in_them : AreAll system b items
  all_in_them = all_more (Contains (items_of system b)) (Contains items) (items_of system b)
      item_in_them (All-contains_itself (items_of system b))

  force_them : AreForced system ds → ForceAll system b items
  force_them forced = all_more (Contains b.nodes)
      (λ node. All (D.IsVarForced system b (Contains items) node) (transition_of system node).vars)
      b.nodes
      (λ node there.
      all_more (IsVarForced system ds (head_of node)) (D.IsVarForced system b (Contains items)
      node)
      (transition_of system node).vars
      (λ x f. (forced_over system b depth shape ds items on turns
      (λ a. Some (a.var node.path x))).0 f)
      (forced (head_of node) (entered_in_them node there)))
      (All-contains_itself b.nodes)

pub found_is_so : FoundIsSo
found_is_so sought ds b turns some done forced shape agrees fits starts (items, on) =
    let system = sought.system in
    let depth = sought.depth in
    let closed = done_are_closed system ds some done in
    let derived = (closed_decisions_decide system b depth ds items shape on turns some closed).1 (
      all_in_them system b depth shape ds items on turns some done,
      force_them system b depth shape ds items on turns some done forced,
    ) in
    record {
      enabled = record { shape = shape; agrees = agrees; derived = derived; fits = fits };
      starts = starts;
      follows = (items, on);
    }
