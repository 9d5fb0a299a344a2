-- The values of a binding that is enabled at fine tokens are fine, since they are forced: where
-- each value is mended, all equations still hold.
use Rattle.std.proofs.Common.{◌≡◌, ℕ, zero, suc, ◌<◌, true, map, length, refl, sym}
use Rattle.std.proofs.Common.{ap, ◌∙◌, subst, inl, inr}
use Rattle.std.specs.Prelude.{All, Option, Some, Contains, flat_map, filter, option_map, slice_get}
use Rattle.std.specs.List.{AllByRecursion, enumerate_from}
use Rattle.std.proofs.lemmas.List.Elements.{All-contains, All-from_recursion}
use Rattle.std.proofs.lemmas.Option.{same_Some, unwrap_or-slice_get}
use Rattle.rn_value.specs.Kinds.{HasKind}
use Rattle.rn_value.specs.declared.value.Kind.TheVariants as Kind
use Rattle.rn_value.specs.declared.value.InstRef.{InstRef}
use Rattle.rn_value.specs.declared.value.InstRef.TheVariants.{Old, New}
use Rattle.rn_value.specs.declared.value.Value.{Value}
use Rattle.rn_value.specs.declared.value.Value.TheVariants as Value
use Rattle.rn_model.specs.declared.expr.Expr.{Expr}
use Rattle.rn_model.specs.declared.system.System.{System}
use Rattle.rn_model.specs.declared.system.Net.{Net}
use Rattle.rn_model.specs.declared.system.Transition.{Transition}
use Rattle.rn_model.specs.declared.system.NetArc.{NetArc}
use Rattle.rn_model.specs.declared.binding.Node.{Node}
use Rattle.rn_model.specs.declared.binding.Binding.{Binding}
use Rattle.rn_model.specs.Good.{Good, action_expr}
use Rattle.rn_model.specs.Lists.{HaveOneValue, value_beside}
use Rattle.rn_model.specs.Systems.{empty_net, empty_transition, net_at, transition_at}
use Rattle.rn_model.specs.Systems.{transition_of, uplink_args, place_kind}
use Rattle.rn_model.specs.Evaluation.{worth}
use Rattle.rn_model.specs.Bindings.{IsNodeOf, env_of}
use Rattle.rn_model.specs.Agreement.{ArcAgrees, NodeAgrees, inscribed_kind}
use Rattle.rn_model.specs.Demands.{elements}
use Rattle.rn_model.specs.Markings.{Marking, tokens, tokens_at}
use Rattle.rn_model.specs.Enabling.{Enabled}
use Rattle.rn_model.specs.Derivation.{Site, left, right, uplink_arg, downlink_arg, arc, Assignment}
use Rattle.rn_model.specs.Derivation.{Item, entry, found, computed, finds_values, holes_in}
use Rattle.rn_model.specs.Derivation.{sites_of, node_items, items_of, EntryHolds, Holds, Satisfies}
use Rattle.rn_model.specs.Derivation.{InBy, IsVarForced, term_value_at}
use Rattle.rn_model.specs.DerivationLaws.{AreOwnValues}
use Rattle.rn_model.proofs.EachElement.{each_append, each_map, each_flat_map, each_weaker}
use Rattle.rn_model.proofs.EachElement.{at_place}
use Rattle.rn_model.proofs.EnablingLemmas.{not_in_nil}
use Rattle.rn_model.proofs.MarkingsStay.{from_strict, each_of}
use Rattle.rn_model.proofs.MarkingsOfRuns.{good_transition}
use Rattle.rn_model.proofs.OwnValues.{own_values_satisfy, not_awaiting}
use Rattle.rn_model.proofs.AskedValues.{got_contained, is_found}
use Rattle.rn_model.proofs.HoleValues.{list_of_kind}
use Rattle.rn_model.proofs.ItemsOfNodes.{item_is_of_node, entry_is_item, each_beside}
use Rattle.rn_readable.proofs.MendedValues.{mended, IsFine, mended-List, mended-Inst}
use Rattle.rn_readable.proofs.MendedValues.{all_are_fine}
use Rattle.rn_readable.proofs.FineReadings.{constants_fine, GivesFine, holes_give_fine}
use Rattle.rn_readable.proofs.FineReadings.{term_value-mended}

abbrev pub IsFineExpr : Expr → Type 0
IsFineExpr e = constants_fine e ≡ true

-- the constants of a transition are fine, but for those of its guards and targets
pub record IsFineTransition (t : Transition) : Type 0 where
  pub equalities : All (λ e. IsFineExpr e.0 × IsFineExpr e.1) t.equalities
  pub uplink : All IsFineExpr (uplink_args t)
  pub downlinks : All (λ d. All IsFineExpr d.args) t.downlinks
  pub arcs : All (λ arc. IsFineExpr arc.inscription) t.arcs
  pub actions : All (λ a. IsFineExpr (action_expr a)) t.actions

-- those of a net are, and its initial tokens
pub record IsFineNet (net : Net) : Type 0 where
  pub transitions : All IsFineTransition net.transitions
  pub initial : All (λ place. All IsFine place.initial) net.places

abbrev pub IsFineSystem : System → Type 0
IsFineSystem system = All IsFineNet system.nets

pub fine_transition : (system : System) (n t : ℕ) → IsFineSystem system →
    n < length system.nets → t < length (net_at system n).transitions →
    IsFineTransition (transition_at system n t)
fine_transition system n t fine h k =
    let net : IsFineNet (net_at system n) =
    subst IsFineNet (sym (unwrap_or-slice_get system.nets n empty_net)) (fine n empty_net h) in
    subst IsFineTransition
    (sym (unwrap_or-slice_get (net_at system n).transitions t empty_transition))
    (net.transitions t empty_transition k)

-- all tokens of a marking are fine
abbrev pub HasFineTokens : Marking → Type 0
HasFineTokens m = (n place : ℕ) (v : Value) → Contains (tokens_at m n place) v → IsFine v

-- What is computed in a binding is fine.
abbrev ComputesFine : Item → Type 0
ComputesFine (computed node site hole) = GivesFine hole
ComputesFine (entry node) = Unit {0}
ComputesFine (found node k x) = Unit {0}

module _ (system : System) (b : Binding) where
  of_node : (node : Node) → AllByRecursion ComputesFine (node_items system node)
  of_node node =
      let t = transition_of system node in
      let arcs = filter (λ e. finds_values e.1.kind) (enumerate_from 0 t.arcs) in
      let founds = map (λ e. found node e.0 e.1) arcs in
      let holes = flat_map (λ s. map (computed node s.0) (holes_in s.1)) (sites_of t) in (
        tt,
        each_append ComputesFine founds holes
            (each_map ComputesFine (λ e. found node e.0 e.1) arcs
            (each_of (λ e. ComputesFine (found node e.0 e.1)) (λ e. tt) arcs))
            (each_flat_map ComputesFine (λ s. map (computed node s.0) (holes_in s.1)) (sites_of t)
            (each_of (λ s. AllByRecursion ComputesFine (map (computed node s.0) (holes_in s.1)))
            (λ s. each_map ComputesFine (computed node s.0) (holes_in s.1)
            (each_weaker GivesFine (λ hole. ComputesFine (computed node s.0 hole))
            (λ hole gives. gives) (holes_in s.1) (holes_give_fine s.1))) (sites_of t))),
      )

  computes_fine : (item : Item) → Contains (items_of system b) item → ComputesFine item
  computes_fine item there =
      All-contains ComputesFine (items_of system b) item
      (All-from_recursion ComputesFine (items_of system b)
      (each_flat_map ComputesFine (node_items system) b.nodes
      (each_of (λ node. AllByRecursion ComputesFine (node_items system node)) of_node b.nodes)))
      there

module _ (system : System) (m : Marking) (b : Binding) (depth : ℕ) (fine : IsFineSystem system)
    (tokens_fine : HasFineTokens m) (enabled : Enabled system m b depth) where
  fine_at : (node : Node) → Contains b.nodes node → IsFineTransition (transition_of system node)
  fine_at node there =
      let of : IsNodeOf system node =
      All-contains (IsNodeOf system) b.nodes node enabled.shape.nodes there in
      fine_transition system node.net node.transition fine of.net of.transition

  token_is_fine : (inst : InstRef) (place : ℕ) (v : Value) → Contains (tokens m inst place) v →
      IsFine v
  token_is_fine (Old n) place v there = tokens_fine n place v there
  token_is_fine (New path j) place v there = absurd (not_in_nil v there)

  -- what an arc of a node finds is fine
  found_is_fine : (node : Node) (k : ℕ) (x : NetArc) (v : Value) → Contains b.nodes node →
      slice_get (transition_of system node).arcs k ≡ Some x → finds_values x.kind ≡ true →
      worth x.inscription (env_of system node) ≡ Some v → IsFine v
  found_is_fine node k x v there here finds is =
      let arc = got_contained (transition_of system node).arcs k x here in
      elim (is_found system b m node x v there arc is (enabled.fits.places node.inst x.place) finds)
      as (λ _. IsFine v) [
        | inl token ↦ token_is_fine node.inst x.place v token
        | inr list ↦
            let agrees : NodeAgrees system node =
            All-contains (NodeAgrees system) b.nodes node enabled.agrees.nodes there in
            let valued = at_place (ArcAgrees system node) (transition_of system node).arcs k x
            agrees.arcs here (not_awaiting (transition_of system node) x x.kind refl finds) in
            let same : valued.0 ≡ v = same_Some valued.0 v (sym valued.1 ∙ is) in
            let kind : HasKind v (inscribed_kind x.kind (place_kind system node.net x.place)) =
            subst (λ w. HasKind w (inscribed_kind x.kind (place_kind system node.net x.place))) same
            valued.2 in
            let as_list : HasKind v (Kind.List (place_kind system node.net x.place)) =
            subst (λ k. HasKind v (inscribed_kind k (place_kind system node.net x.place))) list.0
            kind in
            let all : map mended (elements v) ≡ elements v =
            all_are_fine (elements v)
            (λ w has. token_is_fine node.inst x.place w (subst (λ vs. Contains vs w) list.1 has)) in
            let is_list : Value.List (elements v) ≡ v =
            list_of_kind v (place_kind system node.net x.place) as_list in
            subst IsFine is_list (mended-List (elements v) ∙ ap (λ vs. Value.List vs) all)
      ]

  module _ (own : Assignment) (is_own : AreOwnValues system b own) where
    -- the own values, each mended
    abbrev other : Assignment
    other = record {
      var = λ path x. mended (own.var path x);
      hole = λ path site way. mended (own.hole path site way);
    }

    read_other : (node : Node) (site : Site) (e : Expr) → IsFineExpr e →
        term_value_at other node site e ≡ option_map mended (term_value_at own node site e)
    read_other node site e is = term_value-mended e is (record {
      this = node.inst;
      var = own.var node.path;
      hole = own.hole node.path site;
    })

    both_other : (x y u w : Option Value) → u ≡ option_map mended x → w ≡ option_map mended y →
        HaveOneValue x y → HaveOneValue u w
    both_other x y u w e f (v, p, q) =
        (mended v, e ∙ ap (option_map mended) p, f ∙ ap (option_map mended) q)

    entry_holds : (node : Node) → Contains b.nodes node → EntryHolds system b own node →
        EntryHolds system b other node
    entry_holds node there h =
        let t = fine_at node there in
        record {
          equalities = λ k e here.
              let sides = at_place (λ e. IsFineExpr e.0 × IsFineExpr e.1)
              (transition_of system node).equalities k e t.equalities here in
              both_other (term_value_at own node (left k) e.0)
              (term_value_at own node (right k) e.1)
              (term_value_at other node (left k) e.0) (term_value_at other node (right k) e.1)
              (read_other node (left k) e.0 sides.0) (read_other node (right k) e.1 sides.1)
              (h.equalities k e here);
          creations = λ j c here. ap mended (h.creations j c here) ∙ mended-Inst (New node.path j);
          args = λ caller i d calls k e f here answered.
              let from = fine_at caller calls.caller_there in
              let given = at_place (λ d. All IsFineExpr d.args)
              (transition_of system caller).downlinks i d from.downlinks calls.downlink_there in
              both_other (term_value_at own caller (downlink_arg i k) e)
              (term_value_at own node (uplink_arg k) f)
              (term_value_at other caller (downlink_arg i k) e)
              (term_value_at other node (uplink_arg k) f)
              (read_other caller (downlink_arg i k) e (at_place IsFineExpr d.args k e given here))
              (read_other node (uplink_arg k) f
              (at_place IsFineExpr (uplink_args (transition_of system node)) k f t.uplink answered))
              (h.args caller i d calls k e f here answered);
        }

    holds : (item : Item) → Contains (items_of system b) item → Holds system b other item
    holds (entry node) there =
        entry_holds node (item_is_of_node system b (entry node) there)
        (is_own.items (entry node) there)
    holds (found node k x) there =
        let of = item_is_of_node system b (found node k x) there in
        let h = is_own.items (found node k x) there in
        let is_fine : IsFine h.0 = found_is_fine node k x h.0 of.0 of.1 of.2 h.2 in
        let constants = at_place (λ arc. IsFineExpr arc.inscription)
        (transition_of system node).arcs k x (fine_at node of.0).arcs of.1 in (
          h.0,
          read_other node (arc k) x.inscription constants ∙ ap (option_map mended) h.1
              ∙ ap Some is_fine,
          h.2,
        )
    holds (computed node site hole) there =
        let gives : GivesFine hole = computes_fine system b (computed node site hole) there in
        let h = is_own.items (computed node site hole) there in
        let is_fine : IsFine (own.hole node.path site hole.way) =
        gives (env_of system node) (own.hole node.path site hole.way) h in
        h ∙ ap Some (sym is_fine)

    satisfies : (n : ℕ) → Satisfies system b (InBy system b n) other
    satisfies zero item (node, there, start, is) =
        subst (Holds system b other) (sym is)
        (holds (entry node) (entry_is_item system b node there))
    satisfies (suc n) item (inl before) = satisfies n item before
    satisfies (suc n) item (inr (there, may)) = holds item there

    abbrev rounds : ℕ
    rounds = length (items_of system b)

    var_is_fine : (node : Node) (x : ℕ) (v : Value) → Contains b.nodes node →
        Contains (transition_of system node).vars x →
        value_beside (env_of system node).pairs x ≡ Some v → IsFine v
    var_is_fine node x v there var is =
        let In = InBy system b rounds in
        let forced : IsVarForced system b In node x =
        All-contains (IsVarForced system b In node) (transition_of system node).vars x
        (All-contains (λ node. All (IsVarForced system b In node) (transition_of system node).vars)
        b.nodes node enabled.derived.forced there) var in
        let value : own.var node.path x ≡ v = is_own.values node x v there is in
        let same : Some (mended (own.var node.path x)) ≡ Some (own.var node.path x) =
        forced.1 other (satisfies rounds) ∙ sym (forced.1 own (is_own.rounds rounds)) in
        subst IsFine value (same_Some (mended (own.var node.path x)) (own.var node.path x) same)

  -- each value of each node is fine
  pub value_is_fine : Good system → (node : Node) (v : Value) → Contains b.nodes node →
      Contains node.values v → IsFine v
  value_is_fine good node v there has =
      let own = own_values_satisfy system b depth enabled.shape enabled.agrees in
      let of : IsNodeOf system node =
      All-contains (IsNodeOf system) b.nodes node enabled.shape.nodes there in
      let t = good_transition system node.net node.transition good of.net of.transition in
      let beside = each_beside (transition_of system node).vars node.values v
      (from_strict (transition_of system node).vars t.its_vars.ascending) of.values has in
      var_is_fine own.0 own.1 node beside.0 v there beside.1 beside.2
