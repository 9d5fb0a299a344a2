-- Where a binding of the shape agrees, its own values satisfy the equations of all its items.
use Rattle.std.proofs.Common.{◌≡◌, ℕ, zero, suc, true, false, List, [], ◌∷◌, ◌++◌, map, refl, sym, ap, ◌∙◌, subst, inl, inr}
use Rattle.std.specs.Prelude.{Option, Some, None, option_map, option_and_then, unwrap_or, slice_get, Contains, filter, flat_map}
use Rattle.std.specs.List.{AllZip, AllByRecursion, enumerate_from}
use Rattle.std.specs.Option.{option_map_or}
use Rattle.std.proofs.lemmas.Option.{same_Some}
use Rattle.rn_value.specs.declared.value.Kind.{Kind}
use Rattle.std.proofs.lemmas.List.Elements.{All-contains, All-from_recursion, recursion_from_All, All-contains_itself}
use Rattle.rn_value.specs.declared.value.InstRef.TheVariants.{New}
use Rattle.rn_value.specs.declared.value.Value.{Value}
use Rattle.rn_value.specs.declared.value.Value.TheVariants as Value
use Rattle.rn_model.specs.declared.expr.Expr.{Expr}
use Rattle.rn_model.specs.declared.system.System.{System}
use Rattle.rn_model.specs.declared.system.Transition.{Transition}
use Rattle.rn_model.specs.declared.system.ArcKind.{ArcKind}
use Rattle.rn_model.specs.declared.system.ArcKind.TheVariants.{Input, Output, Test, Reserve, FlexInput, FlexOutput, Inhibit, Clear}
use Rattle.rn_model.specs.declared.system.NetArc.{NetArc}
use Rattle.rn_model.specs.declared.system.Uplink.{Uplink}
use Rattle.rn_model.specs.declared.binding.Node.{Node}
use Rattle.rn_model.specs.declared.binding.Binding.{Binding}
use Rattle.rn_model.specs.Lists.{HaveOneValue, value_beside}
use Rattle.rn_model.specs.Systems.{transition_of, uplink_args, awaits_action, channel_kinds}
use Rattle.rn_model.specs.Evaluation.{Env, worth}
use Rattle.rn_model.specs.Bindings.{Shape, env_of, node_at}
use Rattle.rn_model.specs.Agreement.{Agrees, ArcAgrees, NodeAgrees, HasValueOf, HaveKindsOf}
use Rattle.rn_model.specs.Derivation.{Site, left, right, uplink_arg, target, downlink_arg, arc, Hole, holes_in, Assignment, Unknowns, Item, found, computed, finds_values, finds_token, sides_of, args_of, sites_of, node_items, items_of, EntryHolds, Holds, Satisfies, InBy, term_value_at}
use Rattle.rn_model.specs.DerivationLaws.{AreOwnValues, OwnValuesSatisfy, ForcedIsOwn, ForcedStays}
use Rattle.rn_model.proofs.EachElement.{each_append, each_map, each_flat_map, each_weaker, each_filter, each_place, at_place, at_places}
use Rattle.rn_model.proofs.NodesByPath.{node_at-path}
use Rattle.rn_model.proofs.FormsAtWays.{form_at, holes_of_expr, IsFormOf, HasWorth}
use Rattle.rn_model.proofs.ReadingLemmas.{Sees, Fills, term_value-worth}

-- an argument that has a value of its kind has a value
value_of : (env : Env) (args : List Expr) (kinds : List Kind) (k : ℕ) (e : Expr) → AllZip (HasValueOf env) args kinds → slice_get args k ≡ Some e → (v : Value) × (worth e env ≡ Some v)
value_of env [] kinds k e all there = absurd (let no : ⊥ = cc in no)
value_of env (a ∷ args) [] k e all there = absurd all
value_of env (a ∷ args) (kind ∷ kinds) zero e all there = let same : a ≡ e = cc in subst (λ x. (v : Value) × (worth x env ≡ Some v)) same (all.0.0, all.0.1)
value_of env (a ∷ args) (kind ∷ kinds) (suc k) e all there = value_of env args kinds k e all.1 there

uplink_value : (system : System) (env : Env) (o : Option Uplink) → ((u : Uplink) → o ≡ Some u → HaveKindsOf system env u.channel u.args) → (k : ℕ) (e : Expr) → slice_get (option_map_or (λ u. u.args) o []) k ≡ Some e → (v : Value) × (worth e env ≡ Some v)
uplink_value system env None all k e there = absurd (let no : ⊥ = cc in no)
uplink_value system env (Some u) all k e there = value_of env u.args (channel_kinds system u.channel) k e (all u refl) there

-- an arc that finds values is no output
pub not_awaiting : (t : Transition) (x : NetArc) (kind : ArcKind) → x.kind ≡ kind → finds_values kind ≡ true → awaits_action t x ≡ false
not_awaiting t x Input is finds = rw is refl
not_awaiting t x Test is finds = rw is refl
not_awaiting t x Reserve is finds = rw is refl
not_awaiting t x Clear is finds = rw is refl
not_awaiting t x Output is finds = absurd (let no : ⊥ = cc in no)
not_awaiting t x FlexInput is finds = absurd (let no : ⊥ = cc in no)
not_awaiting t x FlexOutput is finds = absurd (let no : ⊥ = cc in no)
not_awaiting t x Inhibit is finds = absurd (let no : ⊥ = cc in no)

pub token_is_value : (kind : ArcKind) → finds_token kind ≡ true → finds_values kind ≡ true
token_is_value Input finds = refl
token_is_value Test finds = refl
token_is_value Reserve finds = refl
token_is_value Clear finds = refl
token_is_value Output finds = absurd (let no : ⊥ = cc in no)
token_is_value FlexInput finds = absurd (let no : ⊥ = cc in no)
token_is_value FlexOutput finds = absurd (let no : ⊥ = cc in no)
token_is_value Inhibit finds = absurd (let no : ⊥ = cc in no)

-- the expression at a site
abbrev pub expr_at : Transition → Site → Option Expr
expr_at t (left k) = option_map (λ e. e.0) (slice_get t.equalities k)
expr_at t (right k) = option_map (λ e. e.1) (slice_get t.equalities k)
expr_at t (uplink_arg k) = slice_get (uplink_args t) k
expr_at t (target i) = option_map (λ d. d.target) (slice_get t.downlinks i)
expr_at t (downlink_arg i k) = option_and_then (λ d. slice_get d.args k) (slice_get t.downlinks i)
expr_at t (arc k) = option_map (λ x. x.inscription) (slice_get t.arcs k)

abbrev nothing : Value
nothing = Value.Tuple []

-- the value of the operator application at a way in an expression
abbrev applied : Env → List ℕ → Option Expr → Value
applied env way e = unwrap_or (option_and_then (λ form. worth form env) (option_and_then (λ e. form_at e way) e)) nothing

-- the values of a binding's variables and of its operator applications
abbrev pub own_values : System → Binding → Assignment
own_values system b = record {
  var = λ path x. unwrap_or (option_and_then (λ node. value_beside (env_of system node).pairs x) (node_at b path)) nothing;
  hole = λ path site way. unwrap_or (option_map (λ node. applied (env_of system node) way (expr_at (transition_of system node) site)) (node_at b path)) nothing;
}

module _ (system : System) (b : Binding) where
  abbrev own : Assignment
  own = own_values system b

  abbrev seen_at : Node → Site → Unknowns
  seen_at node site = record { this = node.inst; var = own.var node.path; hole = own.hole node.path site }

  abbrev IsOnItsPath : Node → Type 0
  IsOnItsPath node = node_at b node.path ≡ Some node

  var_is : (node : Node) → IsOnItsPath node → (x : ℕ) (v : Value) → value_beside (env_of system node).pairs x ≡ Some v → own.var node.path x ≡ v
  var_is node is x v e = rw (is, e) refl

  sees : (node : Node) (site : Site) → IsOnItsPath node → Sees (env_of system node) (seen_at node site)
  sees node site is = record { this = refl; step = refl; var = var_is node is }

  hole_is : (node : Node) (site : Site) (e : Expr) → IsOnItsPath node → expr_at (transition_of system node) site ≡ Some e → (hole : Hole) → IsFormOf (form_at e) hole → (v : Value) → worth hole.form (env_of system node) ≡ Some v → own.hole node.path site hole.way ≡ v
  hole_is node site e is stands hole form v value = rw (is, stands, form, value) refl

  fills : (node : Node) (site : Site) (e : Expr) → IsOnItsPath node → expr_at (transition_of system node) site ≡ Some e → Fills (env_of system node) (seen_at node site) (holes_in e)
  fills node site e is stands =
      each_weaker (IsFormOf (form_at e)) (λ hole. (v : Value) → worth hole.form (env_of system node) ≡ Some v → own.hole node.path site hole.way ≡ v) (hole_is node site e is stands) (holes_in e) (holes_of_expr e).forms

  -- an expression that has a value is read as it
  pub read : (node : Node) (site : Site) (e : Expr) (v : Value) → IsOnItsPath node → expr_at (transition_of system node) site ≡ Some e → worth e (env_of system node) ≡ Some v → term_value_at own node site e ≡ Some v
  read node site e v is stands value = term_value-worth e (env_of system node) (seen_at node site) (sees node site is) (fills node site e is stands) v value

  -- the site is the expression's, and the expression has a value
  abbrev Stands : Node → Site × Expr → Type 0
  Stands node s = (expr_at (transition_of system node) s.0 ≡ Some s.1) × ((v : Value) × (worth s.1 (env_of system node) ≡ Some v))

  equalities_stand : (node : Node) → NodeAgrees system node → AllByRecursion (Stands node) (flat_map sides_of (enumerate_from 0 (transition_of system node).equalities))
  equalities_stand node agrees =
      each_flat_map (Stands node) sides_of (enumerate_from 0 (transition_of system node).equalities)
      (each_place (λ e. AllByRecursion (Stands node) (sides_of e)) (transition_of system node).equalities (λ k e there.
      let sides = at_place (λ e. HaveOneValue (worth e.0 (env_of system node)) (worth e.1 (env_of system node))) (transition_of system node).equalities k e agrees.equalities there in
      ((rw there refl, (sides.0, sides.1)), ((rw there refl, (sides.0, sides.2)), tt))))

  uplink_stands : (node : Node) → NodeAgrees system node → AllByRecursion (Stands node) (map (λ e. (uplink_arg e.0, e.1)) (enumerate_from 0 (uplink_args (transition_of system node))))
  uplink_stands node agrees =
      each_map (Stands node) (λ e. (uplink_arg e.0, e.1)) (enumerate_from 0 (uplink_args (transition_of system node)))
      (each_place (λ e. Stands node (uplink_arg e.0, e.1)) (uplink_args (transition_of system node)) (λ k e there.
      (there, uplink_value system (env_of system node) (transition_of system node).uplink agrees.uplink k e there)))

  downlinks_stand : (node : Node) → NodeAgrees system node → AllByRecursion (Stands node) (flat_map args_of (enumerate_from 0 (transition_of system node).downlinks))
  downlinks_stand node agrees =
      each_flat_map (Stands node) args_of (enumerate_from 0 (transition_of system node).downlinks)
      (each_place (λ d. AllByRecursion (Stands node) (args_of d)) (transition_of system node).downlinks (λ i d there.
      let kinds = at_place (λ d. HaveKindsOf system (env_of system node) d.channel d.args) (transition_of system node).downlinks i d agrees.downlinks there in
      each_map (Stands node) (λ e. (downlink_arg i e.0, e.1)) (enumerate_from 0 d.args)
      (each_place (λ e. Stands node (downlink_arg i e.0, e.1)) d.args (λ k e here.
      (rw (there, here) refl, value_of (env_of system node) d.args (channel_kinds system d.channel) k e kinds here)))))

  arc_value : (node : Node) → NodeAgrees system node → (k : ℕ) (x : NetArc) → slice_get (transition_of system node).arcs k ≡ Some x → finds_values x.kind ≡ true → (v : Value) × (worth x.inscription (env_of system node) ≡ Some v)
  arc_value node agrees k x there finds =
      let valued = at_place (ArcAgrees system node) (transition_of system node).arcs k x agrees.arcs there (not_awaiting (transition_of system node) x x.kind refl finds) in
      (valued.0, valued.1)

  arcs_stand : (node : Node) → NodeAgrees system node → AllByRecursion (Stands node) (map (λ e. (arc e.0, e.1.inscription)) (filter (λ e. finds_token e.1.kind) (enumerate_from 0 (transition_of system node).arcs)))
  arcs_stand node agrees =
      each_map (Stands node) (λ e. (arc e.0, e.1.inscription)) (filter (λ e. finds_token e.1.kind) (enumerate_from 0 (transition_of system node).arcs))
      (each_filter (λ e. Stands node (arc e.0, e.1.inscription)) (λ e. finds_token e.1.kind) (enumerate_from 0 (transition_of system node).arcs)
      (each_place (λ e. finds_token e.1.kind ≡ true → Stands node (arc e.0, e.1.inscription)) (transition_of system node).arcs (λ k x there finds.
      (rw there refl, arc_value node agrees k x there (token_is_value x.kind finds)))))

  sites_stand : (node : Node) → NodeAgrees system node → AllByRecursion (Stands node) (sites_of (transition_of system node))
  sites_stand node agrees =
      let t = transition_of system node in
      let args = map (λ e. (uplink_arg e.0, e.1)) (enumerate_from 0 (uplink_args t)) in
      let calls = flat_map args_of (enumerate_from 0 t.downlinks) in
      let arcs = map (λ e. (arc e.0, e.1.inscription)) (filter (λ e. finds_token e.1.kind) (enumerate_from 0 t.arcs)) in
      each_append (Stands node) ((flat_map sides_of (enumerate_from 0 t.equalities) ++ args) ++ calls) arcs
      (each_append (Stands node) (flat_map sides_of (enumerate_from 0 t.equalities) ++ args) calls
      (each_append (Stands node) (flat_map sides_of (enumerate_from 0 t.equalities)) args (equalities_stand node agrees) (uplink_stands node agrees)) (downlinks_stand node agrees))
      (arcs_stand node agrees)

  both_hold : (node : Node) (s : Site × Expr) → IsOnItsPath node → Stands node s → (holes : List Hole) → AllByRecursion (IsFormOf (form_at s.1)) holes → AllByRecursion (HasWorth (env_of system node)) holes →
      AllByRecursion (λ hole. Holds system b own (computed node s.0 hole)) holes
  both_hold node s is stands [] forms worths = tt
  both_hold node s is stands (hole ∷ holes) forms worths =
      let value : own.hole node.path s.0 hole.way ≡ worths.0.0 = hole_is node s.0 s.1 is stands.0 hole forms.0 worths.0.0 worths.0.1 in
      (worths.0.1 ∙ ap Some (sym value), both_hold node s is stands holes forms.1 worths.1)

  -- the equations of a node's operator applications
  holes_hold : (node : Node) → IsOnItsPath node → NodeAgrees system node →
      AllByRecursion (Holds system b own) (flat_map (λ s. map (computed node s.0) (holes_in s.1)) (sites_of (transition_of system node)))
  holes_hold node is agrees =
      each_flat_map (Holds system b own) (λ s. map (computed node s.0) (holes_in s.1)) (sites_of (transition_of system node))
      (each_weaker (Stands node) (λ s. AllByRecursion (Holds system b own) (map (computed node s.0) (holes_in s.1))) (λ s stands.
      each_map (Holds system b own) (computed node s.0) (holes_in s.1) (both_hold node s is stands (holes_in s.1) (holes_of_expr s.1).forms ((holes_of_expr s.1).worths (env_of system node) stands.1.0 stands.1.1)))
      (sites_of (transition_of system node)) (sites_stand node agrees))

  -- those of what its arcs find
  arcs_hold : (node : Node) → IsOnItsPath node → NodeAgrees system node →
      AllByRecursion (Holds system b own) (map (λ e. found node e.0 e.1) (filter (λ e. finds_values e.1.kind) (enumerate_from 0 (transition_of system node).arcs)))
  arcs_hold node is agrees =
      each_map (Holds system b own) (λ e. found node e.0 e.1) (filter (λ e. finds_values e.1.kind) (enumerate_from 0 (transition_of system node).arcs))
      (each_filter (λ e. Holds system b own (found node e.0 e.1)) (λ e. finds_values e.1.kind) (enumerate_from 0 (transition_of system node).arcs)
      (each_place (λ e. finds_values e.1.kind ≡ true → Holds system b own (found node e.0 e.1)) (transition_of system node).arcs (λ k x there finds.
      let value = arc_value node agrees k x there finds in
      (value.0, read node (arc k) x.inscription value.0 is (rw there refl) value.1, value.1))))

module _ (system : System) (b : Binding) (depth : ℕ) (shape : Shape system b depth) (agrees : Agrees system b) where
  on_path : (node : Node) → Contains b.nodes node → IsOnItsPath system b node
  on_path node there = node_at-path system b depth node shape there

  -- the equations of a node's entry
  entry_holds : (node : Node) → Contains b.nodes node → NodeAgrees system node → EntryHolds system b (own_values system b) node
  entry_holds node there own_agrees = record {
    equalities = λ k e here.
        let sides = at_place (λ e. HaveOneValue (worth e.0 (env_of system node)) (worth e.1 (env_of system node))) (transition_of system node).equalities k e own_agrees.equalities here in
        (sides.0, read system b node (left k) e.0 sides.0 (on_path node there) (rw here refl) sides.1, read system b node (right k) e.1 sides.0 (on_path node there) (rw here refl) sides.2);
    creations = λ j c here. var_is system b node (on_path node there) c.var (Value.Inst (New node.path j)) (own_agrees.creations j c here);
    args = λ caller i d calls k e f here answered.
        let same = at_places (λ e f. HaveOneValue (worth e (env_of system caller)) (worth f (env_of system node))) d.args (uplink_args (transition_of system node)) k e f (agrees.calls caller i d node calls).args here answered in
        (same.0, read system b caller (downlink_arg i k) e same.0 (on_path caller calls.caller_there) (rw (calls.downlink_there, here) refl) same.1, read system b node (uplink_arg k) f same.0 (on_path node there) answered same.2);
  }

  node_holds : (node : Node) → Contains b.nodes node → AllByRecursion (Holds system b (own_values system b)) (node_items system node)
  node_holds node there =
      let own_agrees : NodeAgrees system node = All-contains (NodeAgrees system) b.nodes node agrees.nodes there in
      let founds = map (λ e. found node e.0 e.1) (filter (λ e. finds_values e.1.kind) (enumerate_from 0 (transition_of system node).arcs)) in
      let holes = flat_map (λ s. map (computed node s.0) (holes_in s.1)) (sites_of (transition_of system node)) in
      (entry_holds node there own_agrees, each_append (Holds system b (own_values system b)) founds holes (arcs_hold system b node (on_path node there) own_agrees) (holes_hold system b node (on_path node there) own_agrees))

  each_item_holds : AllByRecursion (Holds system b (own_values system b)) (items_of system b)
  each_item_holds =
      each_flat_map (Holds system b (own_values system b)) (node_items system) b.nodes
      (each_weaker (Contains b.nodes) (λ node. AllByRecursion (Holds system b (own_values system b)) (node_items system node)) node_holds b.nodes
      (recursion_from_All (Contains b.nodes) b.nodes (All-contains_itself b.nodes)))

  pub items_hold : (item : Item) → Contains (items_of system b) item → Holds system b (own_values system b) item
  items_hold item there = All-contains (Holds system b (own_values system b)) (items_of system b) item (All-from_recursion (Holds system b (own_values system b)) (items_of system b) each_item_holds) there

  in_rounds : (n : ℕ) → Satisfies system b (InBy system b n) (own_values system b)
  in_rounds zero item (node, there, start, is) =
      subst (Holds system b (own_values system b)) (sym is) (entry_holds node there (All-contains (NodeAgrees system) b.nodes node agrees.nodes there))
  in_rounds (suc n) item (inl before) = in_rounds n item before
  in_rounds (suc n) item (inr (there, may)) = items_hold item there

  pub are_own_values : AreOwnValues system b (own_values system b)
  are_own_values = record { values = λ node x v there value. var_is system b node (on_path node there) x v value; items = items_hold; rounds = in_rounds; targets = λ caller i d node calls. read system b caller (target i) d.target (Value.Inst node.inst) (on_path caller calls.caller_there) (rw calls.downlink_there refl) (agrees.calls caller i d node calls).target }

-- where a binding of the shape agrees, its own values satisfy the equations of its items
pub own_values_satisfy : OwnValuesSatisfy
own_values_satisfy system b depth shape agrees = (own_values system b, are_own_values system b depth shape agrees)

pub forced_is_own : ForcedIsOwn
forced_is_own system b depth shape agrees n node x v there value forced =
    let own = own_values_satisfy system b depth shape agrees in
    same_Some forced.0 v (sym (forced.1 own.0 (own.1.rounds n)) ∙ ap Some (own.1.values node x v there value))

pub forced_stays : ForcedStays
forced_stays system b n term forced = (forced.0, λ a satisfies. forced.1 a (λ item before. satisfies item (inl before)))
