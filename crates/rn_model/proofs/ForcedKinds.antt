-- What the items of a binding force has its kind.
use Rattle.std.proofs.Common.{◌≡◌, ℕ, zero, suc, ◌<◌, true, List, [], length, refl, sym, ap, ◌∙◌, subst, inl, inr, ◌⊎◌, ℤ, arith}
use Rattle.std.specs.Prelude.{Some, Contains, slice_get}
use Rattle.std.specs.List.{AllZip}
use Rattle.std.specs.Option.{option_map_or}
use Rattle.std.proofs.lemmas.Option.{same_Some}
use Rattle.std.proofs.lemmas.List.Elements.{All-contains}
use Rattle.rn_value.specs.Kinds.{HasKind, value_has_kind}
use Rattle.rn_value.specs.declared.value.InstRef.{InstRef}
use Rattle.rn_value.specs.declared.value.InstRef.TheVariants.{Old, New}
use Rattle.rn_value.specs.declared.value.Kind.{Kind}
use Rattle.rn_value.specs.declared.value.Kind.TheVariants as Kind
use Rattle.rn_value.specs.declared.value.Value.{Value}
use Rattle.rn_value.specs.declared.value.Value.TheVariants as Value
use Rattle.rn_model.specs.declared.expr.CompareKind.{CompareKind}
use Rattle.rn_model.specs.declared.expr.CompareKind.TheVariants.{Same, Differs, Less, AtMost, Greater, AtLeast}
use Rattle.rn_model.specs.declared.expr.Cond.{Cond}
use Rattle.rn_model.specs.declared.expr.Expr.{Expr}
use Rattle.rn_model.specs.declared.system.System.{System}
use Rattle.rn_model.specs.declared.system.NetArc.{NetArc}
use Rattle.rn_model.specs.declared.system.ArcKind.{ArcKind}
use Rattle.rn_model.specs.declared.system.ArcKind.TheVariants.{Input, Output, Test, Reserve, FlexInput, FlexOutput, Inhibit, Clear}
use Rattle.rn_model.specs.declared.system.Downlink.{Downlink}
use Rattle.rn_model.specs.declared.binding.Node.{Node}
use Rattle.rn_model.specs.declared.binding.Binding.{Binding}
use Rattle.rn_model.specs.Lists.{HaveOneValue}
use Rattle.rn_model.specs.Systems.{net_at, transition_of, uplink_args, var_kind, place_kind, unkinded, channel_kinds}
use Rattle.rn_model.specs.Markings.{Marking, net_of, tokens}
use Rattle.rn_model.specs.Kinds.{HasExprKind, ShareKind}
use Rattle.rn_model.specs.Evaluation.{Env, worth}
use Rattle.rn_model.specs.Agreement.{inscribed_kind, NodeAgrees, ArcAgrees}
use Rattle.rn_model.specs.AgreementLaws.{MayCompare}
use Rattle.rn_model.specs.Demands.{elements, clears}
use Rattle.rn_model.specs.Bindings.{Shape, IsNodeOf, Calls, HasUplinkOf, env_of, node_at}
use Rattle.rn_model.specs.Derivation.{Assignment, Site, Hole, left, right, uplink_arg, downlink_arg, arc, Item, entry, found, computed, finds_values, items_of, holes_in, sites_of, term_value_at, EntryHolds, Holds, Satisfies, Forced, IsVarForced}
use Rattle.rn_model.specs.RoundLaws.{ItemSet, IsIn, AreItems}
use Rattle.rn_model.specs.Good.{Good, IsWellKinded, IsGoodCall, IsGoodArc, all_exprs, Comparison, CanCompare, BothInt, comparisons_in}
use Rattle.rn_model.specs.ExpressionLaws.{HaveKinds, OperandsAreFit}
use Rattle.rn_model.specs.KindLaws.{Standing, alike, gives, var_is, hole_is, FindsAmong, AreFoundAt, HasKindedTokens, AreForcedValues, ForceKinds, ForcedHaveKinds, RoundsAreItems, EnabledAreFoundAt, KindsFitComparisons}
use Rattle.rn_model.proofs.AgreeingValues.{expressions_have_kinds, can_compare}
use Rattle.rn_model.proofs.AskedValues.{got_contained, is_found, cleared}
use Rattle.rn_model.proofs.EachElement.{at_place, at_places}
use Rattle.rn_model.proofs.EnablingLemmas.{not_in_nil}
use Rattle.rn_model.proofs.ItemsOfNodes.{item_is_of_node, entry_is_item}
use Rattle.rn_model.proofs.KindRules.{value_has_kind-Int}
use Rattle.rn_model.proofs.MarkingsOfRuns.{good_transition}
use Rattle.rn_model.proofs.MendedTerms.{mended_by, mended_meets, mended_has_kinds}
use Rattle.rn_model.proofs.MendedValues.{each_listed, inst_has_kind}
use Rattle.rn_model.proofs.HoleKinds.{kind_beside, hole_has}
use Rattle.rn_model.proofs.HoleValues.{list_of_kind}
use Rattle.rn_model.proofs.NodesByPath.{node_at-path}
use Rattle.rn_model.proofs.OwnValues.{not_awaiting}
use Rattle.rn_model.proofs.OperandKinds.{operands_fit, int_of_kind, values_have_kinds}

-- What an arc that finds values finds among tokens of a kind has the kind of its inscription.
found_kind : (arc : ArcKind) (kind : Kind) (vs : List Value) (v : Value) → finds_values arc ≡ true → ((w : Value) → Contains vs w → HasKind w kind) → FindsAmong arc vs v → HasKind v (inscribed_kind arc kind)
found_kind Input kind vs v finds each is = each v is
found_kind Test kind vs v finds each is = each v is
found_kind Reserve kind vs v finds each is = each v is
found_kind Clear kind vs v finds each is = ap (λ w. value_has_kind w (Kind.List kind)) is ∙ each_listed kind vs each
found_kind Output kind vs v finds each is = absurd (let no : ⊥ = cc in no)
found_kind FlexInput kind vs v finds each is = absurd (let no : ⊥ = cc in no)
found_kind FlexOutput kind vs v finds each is = absurd (let no : ⊥ = cc in no)
found_kind Inhibit kind vs v finds each is = absurd (let no : ⊥ = cc in no)

-- Comparisons under values of kinds.
module _ (kinds : ℕ → Kind) (env : Env) (have : HaveKinds kinds env) where
  ints_of : (c : Comparison) → BothInt kinds c → (v w : Value) → worth c.left env ≡ Some v → worth c.right env ≡ Some w → (x y : ℤ) × (v ≡ Value.Int x) × (w ≡ Value.Int y)
  ints_of c can v w p q =
      let at = λ (e : Expr) (u : Value) (has : HasExprKind kinds e Kind.Int) (is : worth e env ≡ Some u). int_of_kind u (values_have_kinds kinds env e Kind.Int u have has is) in
      let first = at c.left v can.0 p in
      let second = at c.right w can.1 q in
      (first.0, second.0, first.1, second.1)

  shared : (c : Comparison) → ShareKind kinds c.left c.right → (v w : Value) → worth c.left env ≡ Some v → worth c.right env ≡ Some w → (kind : Kind) × HasKind v kind × HasKind w kind
  shared c (kind, first, second) v w p q = (kind, values_have_kinds kinds env c.left kind v have first p, values_have_kinds kinds env c.right kind w have second q)

  compares : (c : Comparison) (kind : CompareKind) → CanCompare kinds c kind → (v w : Value) → worth c.left env ≡ Some v → worth c.right env ≡ Some w → MayCompare kind v w
  compares c Same can v w p q = shared c can v w p q
  compares c Differs can v w p q = shared c can v w p q
  compares c Less can v w p q = ints_of c can v w p q
  compares c AtMost can v w p q = ints_of c can v w p q
  compares c Greater can v w p q = ints_of c can v w p q
  compares c AtLeast can v w p q = ints_of c can v w p q

pub kinds_fit_comparisons : KindsFitComparisons
kinds_fit_comparisons kinds env cond have can c there v w p q =
    compares kinds env have c c.kind (All-contains (λ c. CanCompare kinds c c.kind) (comparisons_in cond) c can there) v w p q

module _ (system : System) (m : Marking) (b : Binding) (depth : ℕ) (set : ItemSet) (a : Assignment)
    (good : Good system) (kinded : HasKindedTokens system m) (shape : Shape system b depth)
    (items : AreItems system b set) (at : AreFoundAt system m b set)
    (solves : Satisfies system b (IsIn system b set) a) where
  -- the kinds of the variables of the node on each path
  abbrev kinds : List ℕ → ℕ → Kind
  kinds path = option_map_or (λ node. var_kind system node.net) (node_at b path) (λ x. unkinded)

  abbrev mended : Assignment
  mended = mended_by kinds a

  abbrev standing : Node → Site → Standing
  standing node site = record { inst = node.inst; path = node.path; site = site }

  kinds_of : (node : Node) → Contains b.nodes node → kinds node.path ≡ var_kind system node.net
  kinds_of node there = ap (λ o. option_map_or (λ node. var_kind system node.net) o (λ x. unkinded)) (node_at-path system b depth node shape there)

  at_kinds : (node : Node) → Contains b.nodes node → (e : Expr) (kind : Kind) → HasExprKind (var_kind system node.net) e kind → HasExprKind (kinds node.path) e kind
  at_kinds node there e kind has = subst (λ ks. HasExprKind ks e kind) (sym (kinds_of node there)) has

  of : (node : Node) → Contains b.nodes node → IsNodeOf system node
  of node there = All-contains (IsNodeOf system) b.nodes node shape.nodes there

  well : (node : Node) → Contains b.nodes node → IsWellKinded system (net_at system node.net) (var_kind system node.net) (transition_of system node)
  well node there = (good_transition system node.net node.transition good (of node there).net (of node there).transition).kinds

  -- two expressions that share a kind keep one value
  alike_mended : (node other : Node) → Contains b.nodes node → Contains b.nodes other → (s r : Site) (e f : Expr) (kind : Kind) →
      HasExprKind (var_kind system node.net) e kind → HasExprKind (var_kind system other.net) f kind →
      HaveOneValue (term_value_at a node s e) (term_value_at a other r f) → HaveOneValue (term_value_at mended node s e) (term_value_at mended other r f)
  alike_mended node other there too s r e f kind first second one =
      mended_meets kinds a (alike (standing node s) e (standing other r) f) (kind, at_kinds node there e kind first, at_kinds other too f kind second) one

  -- the node that a downlink calls has an uplink of its channel
  same_channel : (caller : Node) (i : ℕ) (downlink : Downlink) (node : Node) → Calls system b caller i downlink node → HasUplinkOf system node downlink.channel
  same_channel caller i downlink node calls =
      let child = shape.children caller i downlink calls.caller_there calls.downlink_there in
      let theirs : node_at b child.0.path ≡ Some child.0 = node_at-path system b depth child.0 shape child.1.node_there in
      let ours : node_at b node.path ≡ Some node = node_at-path system b depth node shape calls.node_there in
      let same : child.0 ≡ node = same_Some child.0 node (sym theirs ∙ ap (node_at b) (child.1.path ∙ sym calls.path) ∙ ours) in
      subst (λ n. HasUplinkOf system n downlink.channel) same child.2

  arg_mended : (caller : Node) (i : ℕ) (downlink : Downlink) (node : Node) → Calls system b caller i downlink node → (k : ℕ) (e f : Expr) → slice_get downlink.args k ≡ Some e → slice_get (uplink_args (transition_of system node)) k ≡ Some f →
      HaveOneValue (term_value_at a caller (downlink_arg i k) e) (term_value_at a node (uplink_arg k) f) → HaveOneValue (term_value_at mended caller (downlink_arg i k) e) (term_value_at mended node (uplink_arg k) f)
  arg_mended caller i downlink node calls k e f here there one =
      let up = same_channel caller i downlink node calls in
      let down = (at_place (λ d. HasExprKind (var_kind system caller.net) d.target Kind.Net × IsGoodCall system (var_kind system caller.net) d.channel d.args) (transition_of system caller).downlinks i downlink (well caller calls.caller_there).downlinks calls.downlink_there).1 in
      let answer = (well node calls.node_there).uplink up.0 up.1 in
      let args : uplink_args (transition_of system node) ≡ up.0.args = ap (λ o. option_map_or (λ u. u.args) o []) up.1 in
      let in_uplink : slice_get up.0.args k ≡ Some f = subst (λ es. slice_get es k ≡ Some f) args there in
      let down_kind = kind_beside (HasExprKind (var_kind system caller.net)) downlink.args (channel_kinds system downlink.channel) k e down.fits here in
      let fits = subst (λ c. AllZip (HasExprKind (var_kind system node.net)) up.0.args (channel_kinds system c)) up.2 answer.fits in
      let has = at_places (HasExprKind (var_kind system node.net)) up.0.args (channel_kinds system downlink.channel) k f down_kind.0 fits in_uplink down_kind.1 in
      alike_mended caller node calls.caller_there calls.node_there (downlink_arg i k) (uplink_arg k) e f down_kind.0 down_kind.2 has one

  entry_mended : (node : Node) → Contains b.nodes node → EntryHolds system b a node → EntryHolds system b mended node
  entry_mended node there holds = record {
    equalities = λ k e here.
        let share = at_place (λ e. ShareKind (var_kind system node.net) e.0 e.1) (transition_of system node).equalities k e (well node there).equalities here in
        alike_mended node node there there (left k) (right k) e.0 e.1 share.0 share.1 share.2 (holds.equalities k e here);
    creations = λ j c here.
        let is_net : var_kind system node.net c.var ≡ Kind.Net = (at_place (λ c. (c.net < length system.nets) × (var_kind system node.net c.var ≡ Kind.Net)) (transition_of system node).creations j c (well node there).creations here).1 in
        let kind : Kind.Net ≡ kinds node.path c.var = sym (ap (λ ks. ks c.var) (kinds_of node there) ∙ is_net) in
        mended_meets kinds a (var_is node.path c.var (Value.Inst (New node.path j))) (subst (HasKind (Value.Inst (New node.path j))) kind (inst_has_kind (New node.path j))) (holds.creations j c here);
    args = λ caller i downlink calls k e f here answered. arg_mended caller i downlink node calls k e f here answered (holds.args caller i downlink calls k e f here answered);
  }

  -- the tokens of an instance on which a node stands have the kinds of their places
  tokens_kind : (inst : InstRef) (net place : ℕ) → ((n : ℕ) → inst ≡ Old n → net_of m n ≡ Some net) → (w : Value) → Contains (tokens m inst place) w → HasKind w (place_kind system net place)
  tokens_kind (Old n) net place there w is = kinded n net place w (there n refl) is
  tokens_kind (New path j) net place there w is = absurd (not_in_nil w is)

  found_mended : (node : Node) (k : ℕ) (x : NetArc) → IsIn system b set (found node k x) → Holds system b a (found node k x) → Holds system b mended (found node k x)
  found_mended node k x in_set (v, is, value) =
      let of_node = item_is_of_node system b (found node k x) (items (found node k x) in_set) in
      let there = of_node.0 in
      let stands = All-contains (λ node. (n : ℕ) → node.inst ≡ Old n → net_of m n ≡ Some node.net) b.nodes node at.there there in
      let arc_good = at_place (IsGoodArc (net_at system node.net) (var_kind system node.net)) (transition_of system node).arcs k x (well node there).arcs of_node.1 in
      let kind = inscribed_kind x.kind (place_kind system node.net x.place) in
      let fits : HasKind v kind = found_kind x.kind (place_kind system node.net x.place) (tokens m node.inst x.place) v of_node.2 (tokens_kind node.inst node.net x.place stands) (at.finds node k x v in_set value) in
      (v, mended_meets kinds a (gives (standing node (arc k)) x.inscription v) (kind, at_kinds node there x.inscription kind arc_good.kind, fits) is, value)

  computed_mended : (node : Node) (site : Site) (hole : Hole) → IsIn system b set (computed node site hole) → Holds system b a (computed node site hole) → Holds system b mended (computed node site hole)
  computed_mended node site hole in_set value =
      let of_node = item_is_of_node system b (computed node site hole) (items (computed node site hole) in_set) in
      let v = a.hole node.path site hole.way in
      let int = of_node.1 (env_of system node) v value in
      let fits : HasKind v Kind.Int = ap (λ w. value_has_kind w Kind.Int) int.1 ∙ value_has_kind-Int int.0 in
      value ∙ ap Some (sym (mended_meets kinds a (hole_is node.path site hole.way v) fits refl))

  item_mended : (item : Item) → IsIn system b set item → Holds system b a item → Holds system b mended item
  item_mended (entry node) in_set holds = entry_mended node (item_is_of_node system b (entry node) (items (entry node) in_set)) holds
  item_mended (found node k x) in_set holds = found_mended node k x in_set holds
  item_mended (computed node site hole) in_set holds = computed_mended node site hole in_set holds

  solves_mended : Satisfies system b (IsIn system b set) mended
  solves_mended item in_set = item_mended item in_set (solves item in_set)

  module _ (node : Node) (there : Contains b.nodes node) where
    forced_var : (x : ℕ) (forced : IsVarForced system b (IsIn system b set) node x) → HasKind forced.0 (var_kind system node.net x)
    forced_var x forced =
        let is : mended.var node.path x ≡ forced.0 = same_Some (mended.var node.path x) forced.0 (forced.1 mended solves_mended) in
        let kind : kinds node.path x ≡ var_kind system node.net x = ap (λ ks. ks x) (kinds_of node there) in
        subst (HasKind forced.0) kind (subst (λ v. HasKind v (kinds node.path x)) is ((mended_has_kinds kinds a).vars node.path x))

    forced_term : (site : Site) (e : Expr) (kind : Kind) → HasExprKind (var_kind system node.net) e kind →
        (forced : Forced system b (IsIn system b set) (λ a. term_value_at a node site e)) → HasKind forced.0 kind
    forced_term site e kind has forced = (mended_has_kinds kinds a).terms (standing node site) e kind forced.0 (at_kinds node there e kind has) (forced.1 mended solves_mended)

    forced_reading : (env : Env) → AreForcedValues system b set node env → HaveKinds (var_kind system node.net) env
    forced_reading env values x v beside =
        let forced = values x v beside in subst (λ w. HasKind w (var_kind system node.net x)) forced.1 (forced_var x forced.0)

    forced_guards : (env : Env) (guard : Cond) (c : Comparison) → AreForcedValues system b set node env → Contains (transition_of system node).guards guard → Contains (comparisons_in guard) c →
        (v w : Value) → worth c.left env ≡ Some v → worth c.right env ≡ Some w → MayCompare c.kind v w
    forced_guards env guard c values of_node in_guard v w p q =
        compares (var_kind system node.net) env (forced_reading env values) c c.kind (can_compare system (net_at system node.net) (var_kind system node.net) (transition_of system node) (well node there) guard of_node c in_guard) v w p q

    forced_operands : (env : Env) (e : Expr) → AreForcedValues system b set node env → Contains (all_exprs (transition_of system node)) e → OperandsAreFit env e
    forced_operands env e values is =
        operands_fit (var_kind system node.net) env (forced_reading env values) e (expressions_have_kinds system node.net node.transition e good (of node there).net (of node there).transition is)

    forced_computed : (env : Env) (site : Site) (e : Expr) (hole : Hole) → AreForcedValues system b set node env → Contains (sites_of (transition_of system node)) (site, e) → Contains (holes_in e) hole → OperandsAreFit env hole.form
    forced_computed env site e hole values of_node within =
        operands_fit (var_kind system node.net) env (forced_reading env values) hole.form (hole_has system (net_at system node.net) (var_kind system node.net) (transition_of system node) (well node there) site e hole of_node within)

    force_kinds : ForceKinds system b set node
    force_kinds = record { vars = forced_var; terms = forced_term; readings = forced_reading; operands = forced_operands; computed = forced_computed; guards = forced_guards }

pub forced_have_kinds : ForcedHaveKinds
forced_have_kinds system m b depth set a good kinded shape items at solves node there = force_kinds system m b depth set a good kinded shape items at solves node there

-- What the arcs of an enabled binding find is there.
found_among : (arc : ArcKind) (kind : Kind) (vs : List Value) (v : Value) → finds_values arc ≡ true → HasKind v (inscribed_kind arc kind) →
    (Contains vs v ⊎ ((arc ≡ Clear) × (elements v ≡ vs))) → (arc ≡ Clear → elements v ≡ vs) → FindsAmong arc vs v
found_among Clear kind vs v finds has is all = sym (list_of_kind v kind has) ∙ ap (λ ws. Value.List ws) (all refl)
found_among Input kind vs v finds has (inl is) all = is
found_among Test kind vs v finds has (inl is) all = is
found_among Reserve kind vs v finds has (inl is) all = is
found_among Input kind vs v finds has (inr is) all = let clear = is.0 in absurd (let no : ⊥ = cc in no)
found_among Test kind vs v finds has (inr is) all = let clear = is.0 in absurd (let no : ⊥ = cc in no)
found_among Reserve kind vs v finds has (inr is) all = let clear = is.0 in absurd (let no : ⊥ = cc in no)
found_among Output kind vs v finds has is all = absurd (let no : ⊥ = cc in no)
found_among FlexInput kind vs v finds has is all = absurd (let no : ⊥ = cc in no)
found_among FlexOutput kind vs v finds has is all = absurd (let no : ⊥ = cc in no)
found_among Inhibit kind vs v finds has is all = absurd (let no : ⊥ = cc in no)

pub enabled_are_found_at : EnabledAreFoundAt
enabled_are_found_at system m b depth set enabled items = record {
  there = enabled.fits.there;
  finds = λ node k x v in_set value.
      let of_node = item_is_of_node system b (found node k x) (items (found node k x) in_set) in
      let arc = got_contained (transition_of system node).arcs k x of_node.1 in
      let fits = enabled.fits.places node.inst x.place in
      let agrees = All-contains (NodeAgrees system) b.nodes node enabled.agrees.nodes of_node.0 in
      let has = at_place (ArcAgrees system node) (transition_of system node).arcs k x agrees.arcs of_node.1 (not_awaiting (transition_of system node) x x.kind refl of_node.2) in
      let kind : HasKind v (inscribed_kind x.kind (place_kind system node.net x.place)) = subst (λ u. HasKind u (inscribed_kind x.kind (place_kind system node.net x.place))) (same_Some has.0 v (sym has.1 ∙ value)) has.2 in
      found_among x.kind (place_kind system node.net x.place) (tokens m node.inst x.place) v of_node.2 kind
      (is_found system b m node x v of_node.0 arc value fits of_node.2)
      (λ clear. cleared system b m node x v of_node.0 arc value fits (subst (λ kind. Contains (clears kind v) (elements v)) (sym clear) (0, omega arith, refl)));
}

-- what is in after some rounds is one of the binding's items
pub rounds_are_items : RoundsAreItems
rounds_are_items system b zero item (node, there, start, is) = subst (Contains (items_of system b)) (sym is) (entry_is_item system b node there)
rounds_are_items system b (suc n) item (inl before) = rounds_are_items system b n item before
rounds_are_items system b (suc n) item (inr (there, may)) = there
