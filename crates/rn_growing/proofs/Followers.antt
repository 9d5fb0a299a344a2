-- Bindings that follow decisions.
use Rattle.std.proofs.Common.{◌≡◌, ℕ, zero, suc, ◌<◌, ◌≤◌, List, [], ◌∷◌, ◌++◌, length, take}
use Rattle.std.proofs.Common.{refl, sym, ap, ◌∙◌, subst, arith, length-append}
use Rattle.std.specs.Prelude.{Option, Some, None, ◌↔◌, slice_get, All, Contains}
use Rattle.std.proofs.lemmas.Option.{slice_get-get_or, slice_get_within}
use Rattle.std.proofs.lemmas.List.{length-take-le, same_from_push}
use Rattle.rn_value.specs.declared.value.Value.{Value}
use Rattle.rn_value.specs.declared.value.Value.TheVariants as Value
use Rattle.rn_model.specs.declared.system.System.{System}
use Rattle.rn_model.specs.declared.system.Downlink.{Downlink}
use Rattle.rn_model.specs.declared.system.NetArc.{NetArc}
use Rattle.rn_model.specs.declared.binding.Node.{Node}
use Rattle.rn_model.specs.declared.binding.Binding.{Binding}
use Rattle.rn_model.specs.Lists.{HaveOneValue}
use Rattle.rn_model.specs.Systems.{transition_of, vars_in}
use Rattle.rn_model.specs.Bindings.{Shape, Calls, node_at}
use Rattle.rn_model.specs.Derivation.{Assignment, Hole, sites_of, Item}
use Rattle.rn_model.specs.Derivation.{entry, found, computed, items_of, EntryHolds, Holds}
use Rattle.rn_model.specs.Derivation.{Satisfies, Forced, MayEnter, term_value_at, uplink_arg}
use Rattle.rn_model.specs.Derivation.{downlink_arg, target, arc}
use Rattle.rn_model.specs.Derivation as D
use Rattle.rn_model.proofs.NodesByPath.{node_at-path}
use Rattle.rn_growing.specs.declared.decision.Site.{Site}
use Rattle.rn_growing.specs.declared.decision.Head.{Head}
use Rattle.rn_growing.specs.declared.decision.Caller.{Caller}
use Rattle.rn_growing.specs.declared.decision.Decision.{Decision}
use Rattle.rn_growing.specs.declared.decision.Decision.TheVariants.{Entered, Found, Computed}
use Rattle.rn_growing.specs.Decisions.{site_of, transition_in, head_of, IsOn, AreOn}
use Rattle.rn_growing.specs.Equations.{read_at, EntryBrings, Brings, Solves, IsForced}
use Rattle.rn_growing.specs.Turns.{IsEntered, IsVarForced, IsHole, MayBeCalled, MayCome, SameThing}
use Rattle.rn_growing.specs.Turns.{AreInTurn, AreClosed}
use Rattle.rn_model.specs.RoundLaws.{ComeIn, IsClosed}
use Rattle.rn_model.proofs.OwnValues.{own_values_satisfy}
use Rattle.rn_growing.specs.Following.{FollowersAreDecided, ClosedDecisionsDecide, FollowsOn}
use Rattle.rn_growing.specs.Following.{EachIsDecided}
use Rattle.rn_growing.proofs.SameUnknowns.{as_site, as_site-is}
use Rattle.rn_growing.proofs.SoundItems.{items_sound, one_hole}
use Rattle.rn_growing.proofs.Growth.{turns_front, at_in, some_equal}
use Rattle.rn_model.proofs.Rounds.{all_more, closed_decide}

no_snoc : (p : List ℕ) (i : ℕ) → [] ≡ p ++ i ∷ [] → ⊥
no_snoc p i e = let no : ⊥ = omega (arith, ap length e, length-append p (i ∷ [])) in no

module _ (system : System) (b : Binding) where
  abbrev pub On : Decision → Item → Type 0
  On d item = Contains (items_of system b) item × IsOn system d item

  item_of : (ds : List Decision) (items : List Item) → AreOn system b ds items →
      (k : ℕ) (d : Decision) → slice_get ds k ≡ Some d →
      (item : Item) × (slice_get items k ≡ Some item) × On d item
  item_of [] items on k d at = absurd (let no : ⊥ = cc in no)
  item_of (e ∷ ds) [] on k d at = absurd on
  item_of (e ∷ ds) (item ∷ items) on zero d at = let same : e ≡ d = cc in
      (item, refl, subst (λ f. On f item) same on.0)
  item_of (e ∷ ds) (item ∷ items) on (suc k) d at = item_of ds items on.1 k d at

  decision_of : (ds : List Decision) (items : List Item) → AreOn system b ds items →
      (k : ℕ) (item : Item) → slice_get items k ≡ Some item →
      (d : Decision) × (slice_get ds k ≡ Some d) × On d item
  decision_of [] [] on k item at = absurd (let no : ⊥ = cc in no)
  decision_of [] (other ∷ items) on k item at = absurd on
  decision_of (e ∷ ds) [] on k item at = absurd on
  decision_of (e ∷ ds) (other ∷ items) on zero item at = let same : other ≡ item = cc in
      (e, refl, subst (On e) same on.0)
  decision_of (e ∷ ds) (other ∷ items) on (suc k) item at = decision_of ds items on.1 k item at

  on_front : (n : ℕ) (ds : List Decision) (items : List Item) → AreOn system b ds items →
      AreOn system b (take n ds) (take n items)
  on_front zero ds items on = tt
  on_front (suc n) [] [] on = tt
  on_front (suc n) [] (item ∷ items) on = absurd on
  on_front (suc n) (d ∷ ds) [] on = absurd on
  on_front (suc n) (d ∷ ds) (item ∷ items) on = (on.0, on_front n ds items on.1)

  as_long : (ds : List Decision) (items : List Item) → AreOn system b ds items →
      length ds ≡ length items
  as_long [] [] on = refl
  as_long [] (item ∷ items) on = absurd on
  as_long (d ∷ ds) [] on = absurd on
  as_long (d ∷ ds) (item ∷ items) on = let rest = as_long ds items on.1 in omega (arith, rest)

  in_place : {A : Type 0} (xs : List A) (x : A) → Contains xs x →
      (k : ℕ) × (slice_get xs k ≡ Some x)
  in_place xs x (k, h, e) = (k, slice_get-get_or xs k x h ∙ ap Some e)

  -- each decision is on one of the items
  pub item_in : (ds : List Decision) (items : List Item) → AreOn system b ds items → (d : Decision) →
      Contains ds d → (item : Item) × Contains items item × On d item
  item_in ds items on d there =
      let place = in_place ds d there in
      let it = item_of ds items on place.0 d place.1 in
      (it.0, at_in items place.0 it.0 it.1, it.2)

  -- and on each item is one of the decisions
  pub decision_in : (ds : List Decision) (items : List Item) → AreOn system b ds items →
      (item : Item) → Contains items item → (d : Decision) × Contains ds d × On d item
  decision_in ds items on item there =
      let place = in_place items item there in
      let it = decision_of ds items on place.0 item place.1 in
      (it.0, at_in ds place.0 it.0 it.1, it.2)

  -- the node of an entry
  abbrev IsEntryOf : List Item → Head → Node → Type 0
  IsEntryOf items head node = Contains items (entry node) × Contains b.nodes node ×
      (head ≡ head_of node)

  of_item : (items : List Item) (head : Head) (caller : Option Caller) (item : Item) →
      Contains items item → On (Entered head caller) item →
      (node : Node) × IsEntryOf items head node
  of_item items head caller (entry node) there on =
      (node, (there, items_sound system b (entry node) on.0, on.1))
  of_item items head caller (found node k x) there on = absurd on.1
  of_item items head caller (computed node site hole) there on = absurd on.1

  entered_node : (ds : List Decision) (items : List Item) → AreOn system b ds items →
      (head : Head) → IsEntered ds head → (node : Node) × IsEntryOf items head node
  entered_node ds items on head (caller, there) =
      let it = item_in ds items on (Entered head caller) there in
      of_item items head caller it.0 it.1 it.2

  -- a node's caller is that of the decision
  record CallerIs (caller : Option Caller) (node : Node) : Type 0 where
    back : (from : Caller) → caller ≡ Some from →
        (c : Node) × Contains b.nodes c × (from.head ≡ head_of c) ×
        (node.path ≡ c.path ++ from.downlink ∷ [])
    forth : (c : Node) (i : ℕ) (d : Downlink) → Calls system b c i d node →
        caller ≡ Some (record { head = head_of c; downlink = i })

  entry_alike : (a : Assignment) (node : Node) (caller : Option Caller) → Contains b.nodes node →
      CallerIs caller node → EntryBrings system a (head_of node) caller ↔ EntryHolds system b a
      node
  entry_alike a node caller there is = (
    λ brings. record {
      equalities = brings.equalities;
      creations = brings.creations;
      args = λ c i d calls k e f he hf. brings.args (record { head = head_of c; downlink = i }) d
          (is.forth c i d calls) calls.downlink_there k e f he hf;
    },
    λ holds. record {
      equalities = holds.equalities;
      creations = holds.creations;
      args = λ from d named at k e f he hf.
          let c = is.back from named in
          let calls : Calls system b c.0 from.downlink d node = record {
            caller_there = c.1;
            node_there = there;
            downlink_there =
                subst (λ h. slice_get (transition_in system h).downlinks from.downlink ≡ Some d)
                c.2 at;
            path = c.3;
          } in
          subst (λ h. HaveOneValue (read_at a h (downlink_arg from.downlink k) e)
          (read_at a (head_of node) (uplink_arg k) f)) (sym c.2)
          (holds.args c.0 from.downlink d calls k e f he hf);
    },
  )

  abbrev FoundBrings : Assignment → Head → ℕ → Value → Type 0
  FoundBrings a h i v = (n : NetArc) → slice_get (transition_in system h).arcs i ≡ Some n →
      read_at a h (arc i) n.inscription ≡ Some v

  found_alike : (a : Assignment) (head : Head) (k : ℕ) (v : Value) (node : Node) (j : ℕ)
      (x : NetArc) → On (Found head k v) (found node j x) →
      FoundBrings a head k v ↔ Holds system b a (found node j x)
  found_alike a head k v node j x on =
      let at = (items_sound system b (found node j x) on.0).1 in (
        λ brings.
            let here : FoundBrings a (head_of node) j v =
            subst (λ i. FoundBrings a (head_of node) i v) on.1.1
            (subst (λ h. FoundBrings a h k v) on.1.0 brings) in
            (v, here x at, on.1.2),
        λ holds.
            let value : holds.0 ≡ v = some_equal holds.0 v (sym holds.2 ∙ on.1.2) in
            let here : FoundBrings a (head_of node) j v = λ n there.
            let same : x ≡ n = some_equal x n (sym at ∙ there) in
            subst (λ m. term_value_at a node (arc j) m.inscription ≡ Some v) same
            (holds.1 ∙ ap Some value) in
            subst (λ h. FoundBrings a h k v) (sym on.1.0)
            (subst (λ i. FoundBrings a (head_of node) i v) (sym on.1.1) here),
      )

  computed_alike : (a : Assignment) (head : Head) (site : Site) (way : List ℕ) (v : Value)
      (node : Node) (s : D.Site) (hole : Hole) →
      On (Computed head site way v) (computed node s hole) →
      (a.hole head.path (site_of site) way ≡ v) ↔ Holds system b a (computed node s hole)
  computed_alike a head site way v node s hole on =
      let place : a.hole head.path (site_of site) way ≡ a.hole node.path s hole.way =
      ap (λ h. a.hole h.path (site_of site) way) on.1.0
      ∙ ap (λ t. a.hole node.path t way) on.1.1 ∙ ap (a.hole node.path s) on.1.2 in (
        λ brings. on.1.3 ∙ ap Some (sym brings ∙ place),
        λ holds. place ∙ some_equal (a.hole node.path s hole.way) v (sym holds ∙ on.1.3),
      )

  -- where a decision enters a node, its caller is the node's
  abbrev HasCaller : Decision → Item → Type 0
  HasCaller d item = (head : Head) (caller : Option Caller) (node : Node) →
      d ≡ Entered head caller → item ≡ entry node → CallerIs caller node

  alike : (a : Assignment) (d : Decision) (item : Item) → On d item → HasCaller d item →
      Brings system a d ↔ Holds system b a item
  alike a (Entered head caller) (entry node) on callers =
      let is = entry_alike a node caller (items_sound system b (entry node) on.0)
      (callers head caller node refl refl) in
      subst (λ h. EntryBrings system a h caller ↔ EntryHolds system b a node) (sym on.1) is
  alike a (Entered head caller) (found node k x) on callers = absurd on.1
  alike a (Entered head caller) (computed node site hole) on callers = absurd on.1
  alike a (Found head k v) (entry node) on callers = absurd on.1
  alike a (Found head k v) (found node j x) on callers = found_alike a head k v node j x on
  alike a (Found head k v) (computed node site hole) on callers = absurd on.1
  alike a (Computed head site way v) (entry node) on callers = absurd on.1
  alike a (Computed head site way v) (found node j x) on callers = absurd on.1
  alike a (Computed head site way v) (computed node s hole) on callers =
      computed_alike a head site way v node s hole on

  module _ (depth : ℕ) (shape : Shape system b depth) where
    -- nodes of the binding on one path are one
    pub same_node : (x y : Node) → Contains b.nodes x → Contains b.nodes y → x.path ≡ y.path → x ≡ y
    same_node x y here there same =
        some_equal x y (sym (node_at-path system b depth x shape here) ∙ ap (node_at b) same
        ∙ node_at-path system b depth y shape there)

    caller_is : (ds : List Decision) (items : List Item) → AreOn system b ds items →
        (head : Head) (caller : Option Caller) (node : Node) → head ≡ head_of node →
        MayCome system ds (Entered head caller) → CallerIs caller node
    caller_is ds items on head None node is may = record {
      back = λ from e. absurd (let no : ⊥ = cc in no);
      forth = λ c i d calls.
          let start : [] ≡ node.path = sym may.1 ∙ ap (λ h. h.path) is in
          absurd (no_snoc c.path i (start ∙ calls.path));
    }
    caller_is ds items on head (Some from) node is may =
        let c = entered_node ds items on from.head may.entered in
        let path : node.path ≡ c.0.path ++ from.downlink ∷ [] = sym (ap (λ h. h.path) is)
        ∙ may.path ∙ ap (λ h. h.path ++ from.downlink ∷ []) c.1.2 in
        record {
          back = λ other e.
              let same : from ≡ other = some_equal from other e in
              subst (λ o. (c : Node) × Contains b.nodes c × (o.head ≡ head_of c) ×
              (node.path ≡ c.path ++ o.downlink ∷ [])) same (c.0, c.1.1, c.1.2, path);
          forth = λ d i dl calls.
              let both = same_from_push c.0.path d.path from.downlink i (sym path ∙ calls.path) in
              let same : c.0 ≡ d = same_node c.0 d c.1.1 calls.caller_there both.0 in
              ap (λ h. Some (record { head = h; downlink = from.downlink }))
              (c.1.2 ∙ ap head_of same)
              ∙ ap (λ j. Some (record { head = head_of d; downlink = j })) both.1;
        }

    is_on_entry : (head : Head) (caller : Option Caller) (d : Decision) (item : Item) (node : Node)
        → d ≡ Entered head caller → item ≡ entry node → On d item → head ≡ head_of node
    is_on_entry head caller d item node e f on =
        let here : On (Entered head caller) (entry node) =
        subst (λ it. On (Entered head caller) it) f (subst (λ x. On x item) e on) in here.1

    callers : (ds : List Decision) (items : List Item) → AreOn system b ds items →
        AreInTurn system ds → (k : ℕ) (d : Decision) (item : Item) → slice_get ds k ≡ Some d →
        On d item → HasCaller d item
    callers ds items on turns k d item at is head caller node e f =
        caller_is (take k ds) (take k items) (on_front k ds items on) head caller node
        (is_on_entry head caller d item node e f is)
        (turns.came k (Entered head caller) (at ∙ ap Some e))

    -- the equations of the items are those that the decisions bring
    pub equations : (ds : List Decision) (items : List Item) → AreOn system b ds items →
        AreInTurn system ds → (a : Assignment) →
        Satisfies system b (Contains items) a ↔ Solves system ds a
    equations ds items on turns a = (
      λ sat d there.
          let place = in_place ds d there in
          let it = item_of ds items on place.0 d place.1 in
          (alike a d it.0 it.2 (callers ds items on turns place.0 d it.0 place.1 it.2)).1
          (sat it.0 (at_in items place.0 it.0 it.1)),
      λ sol item there.
          let place = in_place items item there in
          let it = decision_of ds items on place.0 item place.1 in
          (alike a it.0 item it.2 (callers ds items on turns place.0 it.0 item it.1 it.2)).0
          (sol it.0 (at_in ds place.0 it.0 it.1)),
    )

    -- what is forced by decisions is forced by the items that they decide, and the other way round
    pub forced_over : (ds : List Decision) (items : List Item) → AreOn system b ds items →
        AreInTurn system ds → (term : Assignment → Option Value) →
        IsForced system ds term ↔ Forced system b (Contains items) term
    forced_over ds items on turns term = (
      λ forced. (forced.0, λ a sat. forced.1 a ((equations ds items on turns a).0 sat)),
      λ forced. (forced.0, λ a sol. forced.1 a ((equations ds items on turns a).1 sol)),
    )

    -- a node that was entered is in by its entry
    its_entry : (ds : List Decision) (items : List Item) → AreOn system b ds items →
        (head : Head) (node : Node) → Contains b.nodes node → head ≡ head_of node →
        IsEntered ds head → Contains items (entry node)
    its_entry ds items on head node there is entered =
        let other = entered_node ds items on head entered in
        let same : other.0 ≡ node = same_node other.0 node other.1.1 there
        (ap (λ h. h.path) (sym other.1.2 ∙ is)) in
        subst (λ n. Contains items (entry n)) same other.1.0

    some_entered : (ds : List Decision) → ds ≡ [] → 0 < length ds → ⊥
    some_entered ds none some = let no : ⊥ = omega (arith, some, ap length none) in no

    called_enters : (ds : List Decision) (items : List Item) → AreOn system b ds items →
        AreInTurn system ds → (head : Head) (from : Caller) (node : Node) → Contains b.nodes node →
        head ≡ head_of node → MayBeCalled system ds head from →
        MayEnter system b (Contains items) (entry node)
    called_enters ds items on turns head from node there is may =
        let c = entered_node ds items on from.head may.entered in
        let path : node.path ≡ c.0.path ++ from.downlink ∷ [] = sym (ap (λ h. h.path) is)
        ∙ may.path ∙ ap (λ h. h.path ++ from.downlink ∷ []) c.1.2 in
        let calls : Calls system b c.0 from.downlink may.downlink node = record {
          caller_there = c.1.1;
          node_there = there;
          downlink_there =
              subst (λ h. slice_get (transition_in system h).downlinks from.downlink ≡ Some
              may.downlink) c.1.2 may.there;
          path = path;
        } in
        let forced =
        (forced_over ds items on turns
        (λ a. read_at a from.head (target from.downlink) may.downlink.target)).0 may.forced in (
          c.0,
          from.downlink,
          may.downlink,
          calls,
          c.1.0,
          subst
              (λ h. Forced system b (Contains items)
              (λ a. read_at a h (target from.downlink) may.downlink.target)) c.1.2 forced,
        )

    hole_is : (head : Head) (site : Site) (node : Node) (s : D.Site) (one other : Hole) →
        head ≡ head_of node → site_of site ≡ s → IsHole system head (site_of site) one →
        IsHole system (head_of node) s other → one.way ≡ other.way → one ≡ other
    hole_is head site node s one other is at (e, e_there, in_e) (f, f_there, in_f) way =
        one_hole (transition_of system node) s e f one other
        (subst (λ t. Contains (sites_of (transition_of system node)) (t, e)) at
        (subst (λ h. Contains (sites_of (transition_in system h)) (site_of site, e)) is
        e_there))
        in_e f_there in_f way

    enters : (ds : List Decision) (items : List Item) → AreOn system b ds items →
        AreInTurn system ds → 0 < length ds → (d : Decision) (item : Item) → On d item →
        MayCome system ds d → MayEnter system b (Contains items) item
    enters ds items on turns some (Entered head None) (entry node) is may =
        absurd (some_entered ds may.0 some)
    enters ds items on turns some (Entered head (Some from)) (entry node) is may =
        called_enters ds items on turns head from node (items_sound system b (entry node) is.0)
        is.1 may
    enters ds items on turns some (Entered head caller) (found node k x) is may = absurd is.1
    enters ds items on turns some (Entered head caller) (computed node site hole) is may =
        absurd is.1
    enters ds items on turns some (Found head k v) (entry node) is may = absurd is.1
    enters ds items on turns some (Found head k v) (found node j x) is may =
        its_entry ds items on head node (items_sound system b (found node j x) is.0).0 is.1.0 may.0
    enters ds items on turns some (Found head k v) (computed node site hole) is may = absurd is.1
    enters ds items on turns some (Computed head site way v) (entry node) is may = absurd is.1
    enters ds items on turns some (Computed head site way v) (found node j x) is may = absurd is.1
    enters ds items on turns some (Computed head site way v) (computed node s hole) is may =
        let sound = items_sound system b (computed node s hole) is.0 in
        let same : may.1.0 ≡ hole = hole_is head site node s may.1.0 hole is.1.0 is.1.1 may.1.2
        sound.1 (may.1.1 ∙ is.1.2) in
        let forced : All (IsVarForced system ds (head_of node)) (vars_in hole.form) =
        subst (λ h. All (IsVarForced system ds (head_of node)) (vars_in h.form)) same
        (subst (λ h. All (IsVarForced system ds h) (vars_in may.1.0.form)) is.1.0 may.1.3) in (
          its_entry ds items on head node sound.0 is.1.0 may.0,
          all_more
              (IsVarForced system ds (head_of node)) (D.IsVarForced system b (Contains items) node)
              (vars_in hole.form)
              (λ x f. (forced_over ds items on turns (λ a. Some (a.var node.path x))).0 f) forced,
        )

    pub same_thing : (d e : Decision) (item : Item) → On d item → On e item → SameThing d e
    same_thing (Entered head caller) (Entered other from) (entry node) one two =
        ap (λ h. h.path) (one.1 ∙ sym two.1)
    same_thing (Found head k v) (Found other j w) (found node i x) one two =
        (ap (λ h. h.path) (one.1.0 ∙ sym two.1.0), one.1.1 ∙ sym two.1.1)
    same_thing (Computed head site way v) (Computed other at along w) (computed node s hole) one
        two =
        (ap (λ h. h.path) (one.1.0 ∙ sym two.1.0), one.1.1 ∙ sym two.1.1, one.1.2 ∙ sym two.1.2)
    same_thing (Entered head caller) (Found other j w) (entry node) one two = absurd two.1
    same_thing (Entered head caller) (Computed other at along w) (entry node) one two =
        absurd two.1
    same_thing (Found head k v) (Entered other from) (found node i x) one two = absurd two.1
    same_thing (Found head k v) (Computed other at along w) (found node i x) one two = absurd two.1
    same_thing (Computed head site way v) (Entered other from) (computed node s hole) one two =
        absurd two.1
    same_thing (Computed head site way v) (Found other j w) (computed node s hole) one two =
        absurd two.1
    same_thing (Entered head caller) e (found node i x) one two = absurd one.1
    same_thing (Entered head caller) e (computed node s hole) one two = absurd one.1
    same_thing (Found head k v) e (entry node) one two = absurd one.1
    same_thing (Found head k v) e (computed node s hole) one two = absurd one.1
    same_thing (Computed head site way v) e (entry node) one two = absurd one.1
    same_thing (Computed head site way v) e (found node i x) one two = absurd one.1

    -- what is decided of a thing is in by its item
    pub closed_entry : (items : List Item) (h : Head) (c : Option Caller) (node : Node) →
        Contains b.nodes node → h ≡ head_of node → (e : Decision) (it : Item) →
        SameThing (Entered h c) e → Contains items it → On e it → Contains items (entry node)
    closed_entry items h c node there is (Entered o f) (entry n) same inside on =
        subst (λ m. Contains items (entry m))
        (same_node n node (items_sound system b (entry n) on.0) there
        (sym (ap (λ g. g.path) on.1) ∙ sym same ∙ ap (λ g. g.path) is)) inside
    closed_entry items h c node there is (Entered o f) (found n i y) same inside on = absurd on.1
    closed_entry items h c node there is (Entered o f) (computed n t other) same inside on =
        absurd on.1
    closed_entry items h c node there is (Found o j w) it same inside on = absurd same
    closed_entry items h c node there is (Computed o at along w) it same inside on = absurd same

    -- so is what an arc finds
    pub closed_found : (items : List Item) (k : ℕ) (v : Value) (node : Node) (x : NetArc) →
        Contains (items_of system b) (found node k x) → (e : Decision) (it : Item) →
        SameThing (Found (head_of node) k v) e → Contains items it → On e it →
        Contains items (found node k x)
    closed_found items k v node x own (Found o j w) (found n i y) same inside on =
        let sound = items_sound system b (found node k x) own in
        let other = items_sound system b (found n i y) on.0 in
        let nodes : n ≡ node = same_node n node other.0 sound.0
        (sym (ap (λ g. g.path) on.1.0) ∙ sym same.0) in
        let places : i ≡ k = sym on.1.1 ∙ sym same.1 in
        let at : slice_get (transition_of system node).arcs k ≡ Some y =
        subst (λ m. slice_get (transition_of system node).arcs m ≡ Some y) places
        (subst (λ m. slice_get (transition_of system m).arcs i ≡ Some y) nodes other.1) in
        let arcs : y ≡ x = some_equal y x (sym at ∙ sound.1) in
        subst (Contains items) (ap (λ m. found m i y) nodes ∙ ap (λ m. found node m y) places
        ∙ ap (found node k) arcs) inside
    closed_found items k v node x own (Found o j w) (entry n) same inside on = absurd on.1
    closed_found items k v node x own (Found o j w) (computed n t other) same inside on =
        absurd on.1
    closed_found items k v node x own (Entered o f) it same inside on = absurd same
    closed_found items k v node x own (Computed o at along w) it same inside on = absurd same

    -- and so is the value of an operator application
    pub closed_computed : (items : List Item) (site : Site) (v : Value) (node : Node) (s : D.Site)
        (hole : Hole) → site_of site ≡ s → Contains (items_of system b) (computed node s hole) →
        (e : Decision) (it : Item) → SameThing (Computed (head_of node) site hole.way v) e →
        Contains items it → On e it → Contains items (computed node s hole)
    closed_computed items site v node s hole is own (Computed o at along w) (computed n t other)
        same inside on =
        let sound = items_sound system b (computed node s hole) own in
        let found_there = items_sound system b (computed n t other) on.0 in
        let nodes : n ≡ node = same_node n node found_there.0 sound.0
        (sym (ap (λ g. g.path) on.1.0) ∙ sym same.0) in
        let sites : t ≡ s = sym on.1.1 ∙ sym same.1 ∙ is in
        let stands : Contains (sites_of (transition_of system node)) (s, found_there.1.0) =
        subst (λ u. Contains (sites_of (transition_of system node)) (u, found_there.1.0)) sites
        (subst (λ m. Contains (sites_of (transition_of system m)) (t, found_there.1.0)) nodes
        found_there.1.1) in
        let holes : other ≡ hole = one_hole (transition_of system node) s found_there.1.0 sound.1.0
        other hole stands found_there.1.2 sound.1.1 sound.1.2 (sym on.1.2 ∙ sym same.2) in
        subst (Contains items) (ap (λ m. computed m t other) nodes
        ∙ ap (λ u. computed node u other) sites ∙ ap (computed node s) holes) inside
    closed_computed items site v node s hole is own (Computed o at along w) (entry n) same inside
        on = absurd on.1
    closed_computed items site v node s hole is own (Computed o at along w) (found n i y) same
        inside on = absurd on.1
    closed_computed items site v node s hole is own (Entered o f) it same inside on = absurd same
    closed_computed items site v node s hole is own (Found o j w) it same inside on = absurd same

    apart : (j k : ℕ) → ((j < k) → ⊥) → ((k < j) → ⊥) → j ≡ k
    apart j k not_less not_more = grind arith

    none_entered : (h : Head) → IsEntered [] h → ⊥
    none_entered h (c, (k, less, e)) = let no : ⊥ = omega (arith, less) in no

    abbrev IsStartItem : Item → Type 0
    IsStartItem item = (node : Node) × Contains b.nodes node × (node.path ≡ []) ×
        (item ≡ entry node)

    first_is : (d : Decision) (item : Item) → On d item → MayCome system [] d → IsStartItem item
    first_is (Entered head None) (entry node) on may =
        (node, items_sound system b (entry node) on.0, sym (ap (λ g. g.path) on.1) ∙ may.1, refl)
    first_is (Entered head (Some from)) (entry node) on may =
        absurd (none_entered from.head may.entered)
    first_is (Entered head caller) (found node k x) on may = absurd on.1
    first_is (Entered head caller) (computed node s hole) on may = absurd on.1
    first_is (Found head k v) item on may = absurd (none_entered head may.0)
    first_is (Computed head site way v) item on may = absurd (none_entered head may.0)

    start_of : (ds : List Decision) (items : List Item) → AreOn system b ds items →
        AreInTurn system ds → 0 < length ds →
        (node : Node) × Contains b.nodes node × (node.path ≡ []) ×
        (slice_get items 0 ≡ Some (entry node))
    start_of [] items on turns some = absurd (let no : ⊥ = omega (arith, some) in no)
    start_of (d ∷ ds) items on turns some =
        let it = item_of (d ∷ ds) items on 0 d refl in
        let start = first_is d it.0 it.2 (turns.came 0 d refl) in
        (start.0, start.1, start.2, it.1 ∙ ap Some start.3)

    come : (ds : List Decision) (items : List Item) → AreOn system b ds items →
        AreInTurn system ds → 0 < length ds → ComeIn system b items
    come ds items on turns some = record {
      start = start_of ds items on turns some;
      each = λ k item at. (decision_of ds items on k item at).2.0;
      enter = λ k item late at.
          let d = decision_of ds items on k item at in
          let within = slice_get_within ds k d.0 d.1 in
          let room : k ≤ length ds = omega (arith, within) in
          enters (take k ds) (take k items) (on_front k ds items on)
          (turns_front system ds k room turns)
          (let long = length-take-le k ds room in omega (arith, long, late)) d.0 item d.2
          (turns.came k d.0 d.1);
      once = λ j k item first second.
          let one = decision_of ds items on j item first in
          let two = decision_of ds items on k item second in
          apart j k
          (λ less. turns.once j k one.0 two.0 less one.1 two.1
          (same_thing one.0 two.0 item one.2 two.2))
          (λ less. turns.once k j two.0 one.0 less two.1 one.1
          (same_thing two.0 one.0 item two.2 one.2));
    }

    -- where one of the decisions is on a node's entry, the node was entered
    pub entered_by : (ds : List Decision) (d : Decision) (node : Node) → Contains ds d →
        On d (entry node) → IsEntered ds (head_of node)
    entered_by ds (Entered head caller) node there on =
        (caller, subst (λ h. Contains ds (Entered h caller)) on.1 there)
    entered_by ds (Found head k v) node there on = absurd on.1
    entered_by ds (Computed head site way v) node there on = absurd on.1

    closed : (ds : List Decision) (items : List Item) → AreOn system b ds items →
        AreInTurn system ds → AreClosed system ds → IsClosed system b items
    closed ds items on turns all (entry node) there (caller, i, downlink, calls, inside, forced) =
        let d = decision_in ds items on (entry caller) inside in
        let entered : IsEntered ds (head_of caller) = entered_by ds d.0 caller d.1 d.2 in
        let may : MayBeCalled system ds (head_of node)
        (record { head = head_of caller; downlink = i }) = record {
          entered = entered;
          downlink = downlink;
          there = calls.downlink_there;
          path = calls.path;
          forced = (forced_over ds items on turns
              (λ a. term_value_at a caller (target i) downlink.target)).1 forced;
        } in
        let other =
        all (Entered (head_of node) (Some (record { head = head_of caller; downlink = i })))
        may in
        let it = item_in ds items on other.0 other.1 in
        closed_entry items (head_of node) (Some (record { head = head_of caller; downlink = i }))
        node calls.node_there refl other.0 it.0 other.2 it.1 it.2
    closed ds items on turns all (found node k x) there inside =
        let d = decision_in ds items on (entry node) inside in
        let sound = items_sound system b (found node k x) there in
        let other = all (Found (head_of node) k (Value.Tuple []))
        (entered_by ds d.0 node d.1 d.2, (x, sound.1, sound.2)) in
        let it = item_in ds items on other.0 other.1 in
        closed_found items k (Value.Tuple []) node x there other.0 it.0 other.2 it.1 it.2
    closed ds items on turns all (computed node s hole) there (inside, forced) =
        let d = decision_in ds items on (entry node) inside in
        let sound = items_sound system b (computed node s hole) there in
        let vars : All (IsVarForced system ds (head_of node)) (vars_in hole.form) =
        all_more (D.IsVarForced system b (Contains items) node)
        (IsVarForced system ds (head_of node)) (vars_in hole.form)
        (λ x f. (forced_over ds items on turns (λ a. Some (a.var node.path x))).1 f) forced in
        let is : IsHole system (head_of node) (site_of (as_site s)) hole =
        subst (λ t. IsHole system (head_of node) t hole) (sym (as_site-is s)) sound.1 in
        let other = all (Computed (head_of node) (as_site s) hole.way (Value.Tuple []))
        (entered_by ds d.0 node d.1 d.2, (hole, refl, is, vars)) in
        let it = item_in ds items on other.0 other.1 in
        closed_computed items (as_site s) (Value.Tuple []) node s hole (as_site-is s) there other.0
        it.0 other.2 it.1 it.2

-- decisions in turn say of a binding that follows them what the items do that they decide
pub followers_are_decided : FollowersAreDecided
followers_are_decided system b depth ds items shape on turns some = record {
  equations = equations system b depth shape ds items on turns;
  forced = forced_over system b depth shape ds items on turns;
  come = come system b depth shape ds items on turns some;
  closed = closed system b depth shape ds items on turns;
}

-- where none may come in, it is derived just where all is decided and its variables are forced
pub closed_decisions_decide : ClosedDecisionsDecide
closed_decisions_decide system b depth ds items shape on turns some all =
    closed_decide system b depth items shape (come system b depth shape ds items on turns some)
    (closed system b depth shape ds items on turns all)

-- one more decision, on an item of the binding, is followed too
pub follows_on : FollowsOn
follows_on system b [] [] d item on there is = ((there, is), tt)
follows_on system b [] (other ∷ items) d item on there is = absurd on
follows_on system b (e ∷ ds) [] d item on there is = absurd on
follows_on system b (e ∷ ds) (other ∷ items) d item on there is =
    (on.0, follows_on system b ds items d item on.1 there is)

decided_by : (system : System) (b : Binding) (a : Assignment) (item : Item) →
    Holds system b a item → (d : Decision) × IsOn system d item
decided_by system b a (entry node) holds = (Entered (head_of node) None, refl)
decided_by system b a (found node k x) holds =
    (Found (head_of node) k holds.0, (refl, refl, holds.2))
decided_by system b a (computed node s hole) holds = (
  Computed (head_of node) (as_site s) hole.way (a.hole node.path s hole.way),
  (refl, as_site-is s, refl, holds),
)

-- where a binding has the shape and agrees, some decision is on each of its items
pub each_is_decided : EachIsDecided
each_is_decided system b depth shape agrees item there =
    let own = own_values_satisfy system b depth shape agrees in
    decided_by system b own.0 item (own.1.items item there)
