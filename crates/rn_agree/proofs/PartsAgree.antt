-- In a good system a binding of the shape agrees exactly where its parts do: values that stand for
-- expressions have their kinds, since those of variables have.
use Rattle.std.proofs.Common.{◌≡◌, ◌≢◌, ℕ, ◌<◌, Bool, List, [], ◌∷◌, ◌++◌, length}
use Rattle.std.proofs.Common.{get_or, refl, sym, ◌∙◌, subst, arith}
use Rattle.std.specs.Prelude.{Some, None, All, Contains, slice_get}
use Rattle.std.specs.Prelude.{IsTrue, ◌↔◌}
use Rattle.std.specs.List.{AllZip}
use Rattle.std.proofs.lemmas.Option.{same_Some, slice_get-get_or}
use Rattle.std.proofs.lemmas.List.Elements.{All-contains, Contains-get_or}
use Rattle.rn_value.specs.declared.value.Kind.{Kind}
use Rattle.rn_model.specs.declared.expr.Expr.{Expr}
use Rattle.rn_model.specs.declared.system.System.{System}
use Rattle.rn_model.specs.declared.system.Transition.{Transition}
use Rattle.rn_model.specs.declared.system.Downlink.{Downlink}
use Rattle.rn_model.specs.declared.system.Uplink.{Uplink}
use Rattle.rn_model.specs.declared.binding.Node.{Node}
use Rattle.rn_model.specs.declared.binding.Binding.{Binding}
use Rattle.rn_model.specs.Lists.{HaveOneValue}
use Rattle.rn_model.specs.Systems.{net_at, transition_of, var_kind, channel_kinds, uplink_args}
use Rattle.rn_model.specs.Kinds.{HasExprKind}
use Rattle.rn_model.specs.Evaluation.{Env, worth}
use Rattle.rn_model.specs.Bindings.{Shape, IsNodeOf, Calls, IsCalled, node_at, env_of}
use Rattle.rn_model.specs.Agreement.{Agrees, NodeAgrees, CallAgrees, HasValueOf, HaveKindsOf}
use Rattle.rn_model.specs.Good.{Good, IsGoodTransition, IsGoodCall, IsWellKinded, occurring}
use Rattle.rn_model.specs.ExpressionLaws.{HaveKinds}
use Rattle.rn_model.proofs.MarkingsOfRuns.{good_transition}
use Rattle.rn_model.proofs.OperandKinds.{values_have_kinds}
use Rattle.rn_model.proofs.AskedValues.{got_contained}
use Rattle.rn_model.proofs.AgreeingValues.{beside_kind}
use Rattle.rn_agree.specs.link.Agreeing.{IsReadable, NodeHolds, CallsAgree, AgreesInParts}
use Rattle.rn_agree.proofs.LinkLemmas.{found_itself, on_its_path, links_of_shape, no_more_downlinks}

-- arguments with values, of which each has a kind, have values of these kinds
valued_left : (env other : Env) (kinds : ℕ → Kind) (es fs : List Expr) (ks : List Kind) →
    HaveKinds kinds env →
    AllZip (λ e f. HaveOneValue (worth e env) (worth f other)) es fs →
    AllZip (HasExprKind kinds) es ks → AllZip (HasValueOf env) es ks
valued_left env other kinds [] fs [] have one fits = tt
valued_left env other kinds [] fs (k ∷ ks) have one fits = absurd fits
valued_left env other kinds (e ∷ es) fs [] have one fits = absurd fits
valued_left env other kinds (e ∷ es) [] (k ∷ ks) have one fits = absurd one
valued_left env other kinds (e ∷ es) (f ∷ fs) (k ∷ ks) have one fits = (
  (one.0.0, one.0.1, values_have_kinds kinds env e k one.0.0 have fits.0 one.0.1),
  valued_left env other kinds es fs ks have one.1 fits.1,
)

valued_right : (env other : Env) (kinds : ℕ → Kind) (es fs : List Expr) (ks : List Kind) →
    HaveKinds kinds other →
    AllZip (λ e f. HaveOneValue (worth e env) (worth f other)) es fs →
    AllZip (HasExprKind kinds) fs ks → AllZip (HasValueOf other) fs ks
valued_right env other kinds es [] [] have one fits = tt
valued_right env other kinds es [] (k ∷ ks) have one fits = absurd fits
valued_right env other kinds es (f ∷ fs) [] have one fits = absurd fits
valued_right env other kinds [] (f ∷ fs) (k ∷ ks) have one fits = absurd one
valued_right env other kinds (e ∷ es) (f ∷ fs) (k ∷ ks) have one fits = (
  (one.0.0, one.0.2, values_have_kinds kinds other f k one.0.0 have fits.0 one.0.2),
  valued_right env other kinds es fs ks have one.1 fits.1,
)

module _ (system : System) (b : Binding) (depth : ℕ) (good : Good system)
    (shape : Shape system b depth) where
  own : (node : Node) → Contains b.nodes node → IsNodeOf system node
  own node there = All-contains (IsNodeOf system) b.nodes node shape.nodes there

  good_at : (node : Node) → Contains b.nodes node →
      IsGoodTransition system (net_at system node.net) (transition_of system node)
  good_at node there =
      let of = own node there in
      good_transition system node.net node.transition good of.net of.transition

  -- the values of each node can be looked up
  pub readable : All (IsReadable system) b.nodes
  readable k d h =
      let node = get_or b.nodes k d in
      let there : Contains b.nodes node = Contains-get_or b.nodes k d h in
      let t = good_at node there in
      let few = no_more_downlinks system b node shape.ascending
      (links_of_shape system b depth shape k d h).children in
      let many = shape.many in
      record {
        own = shape.nodes k d h;
        in_range = λ j e low.
            All-contains (λ x. x < length (net_at system node.net).vars)
            (occurring (transition_of system node)) _ t.in_range
            ((t.its_vars.vars (get_or (transition_of system node).vars j e)).0
            (Contains-get_or (transition_of system node).vars j e low)).0;
        few = omega (arith, few, many);
      }

  -- the calls by paths are those of the definition
  calls_by_path : (caller : Node) → Contains b.nodes caller → CallsAgree system b caller →
      (i : ℕ) (downlink : Downlink) (node : Node) → Calls system b caller i downlink node →
      CallAgrees system caller downlink node
  calls_by_path caller there agree i downlink node calls =
      agree i downlink calls.downlink_there node
      (subst (λ p. node_at b p ≡ Some node) calls.path
      (found_itself b node shape.ascending calls.node_there))

  module _ (parts : AgreesInParts system b) where
    called : (caller : Node) (i : ℕ) (downlink : Downlink) (node : Node) →
        Calls system b caller i downlink node → CallAgrees system caller downlink node
    called caller i downlink node calls =
        calls_by_path caller calls.caller_there
        (All-contains (CallsAgree system b) b.nodes caller parts.calls calls.caller_there)
        i downlink node calls

    module _ (node : Node) (there : Contains b.nodes node) where
      abbrev t : Transition
      t = transition_of system node

      abbrev env : Env
      env = env_of system node

      abbrev kinds : ℕ → Kind
      kinds = var_kind system node.net

      holds : NodeHolds system node
      holds = All-contains (NodeHolds system) b.nodes node parts.nodes there

      have : HaveKinds kinds env
      have = beside_kind kinds t.vars node.values holds.kinds

      well : IsWellKinded system (net_at system node.net) kinds t
      well = (good_at node there).kinds

      downlinks_valued : (i : ℕ) (d : Downlink) → slice_get t.downlinks i ≡ Some d →
          HaveKindsOf system env d.channel d.args
      downlinks_valued i d at =
          let (child, calls, answers) = shape.children node i d there at in
          let agrees = called node i d child calls in
          let call = All-contains
          (λ d. HasExprKind kinds d.target Kind.Net × IsGoodCall system kinds d.channel d.args)
          t.downlinks d well.downlinks (got_contained t.downlinks i d at) in
          valued_left env (env_of system child) kinds d.args
          (uplink_args (transition_of system child))
          (channel_kinds system d.channel) have agrees.args call.1.fits

      -- a node with an uplink isn't the start
      not_start : (u : Uplink) → t.uplink ≡ Some u → node.path ≢ []
      not_start u is empty =
          let (start, at, starts) = shape.start in
          let here : node_at b [] ≡ Some node
          = subst (λ p. node_at b p ≡ Some node) empty
          (found_itself b node shape.ascending there) in
          let same : start ≡ node = same_Some start node (sym at ∙ here) in
          let none : t.uplink ≡ None = subst
          (λ n. (transition_of system n).uplink ≡ None) same starts.uplink in
          let no : ⊥ = cc in no

      uplink_valued : (u : Uplink) → t.uplink ≡ Some u → HaveKindsOf system env u.channel u.args
      uplink_valued u is =
          let (k, h, e) = there in
          let (caller, i, d, calls) = subst (λ n. n.path ≢ [] → IsCalled system b n) e
          (shape.called k node h) (not_start u is) in
          let agrees = called caller i d node calls in
          let args : uplink_args t ≡ u.args = rw is refl in
          valued_right (env_of system caller) env kinds d.args u.args
          (channel_kinds system u.channel) have
          (subst (λ l. AllZip (λ e f. HaveOneValue (worth e (env_of system caller)) (worth f env))
          d.args l) args agrees.args)
          (well.uplink u is).fits

      agrees_there : NodeAgrees system node
      agrees_there = record {
        kinds = holds.kinds;
        equalities = holds.inscriptions.equalities;
        creations = holds.inscriptions.creations;
        guards = holds.inscriptions.guards;
        arcs = λ k d h waits.
            let value = holds.inscriptions.arcs k d h waits in
            let fits = well.arcs k d h in
            (value.0, value.1, values_have_kinds kinds env _ _ value.0 have fits.kind value.1);
        downlinks = λ k d h. downlinks_valued k (get_or t.downlinks k d)
            (slice_get-get_or t.downlinks k d h);
        uplink = uplink_valued;
      }

    agree_by_parts : Agrees system b
    agree_by_parts = record {
      nodes = λ k d h. agrees_there (get_or b.nodes k d) (Contains-get_or b.nodes k d h);
      calls = called;
    }

  parts_agree : Agrees system b → AgreesInParts system b
  parts_agree agrees = record {
    nodes = λ k d h.
        let node = agrees.nodes k d h in
        record {
          kinds = node.kinds;
          inscriptions = record {
            equalities = node.equalities;
            creations = node.creations;
            guards = node.guards;
            arcs = λ j e low waits. let has = node.arcs j e low waits in (has.0, has.1);
          };
        };
    calls = λ k d h i downlink at child on.
        let place = on_its_path b ((get_or b.nodes k d).path ++ i ∷ []) child on in
        agrees.calls (get_or b.nodes k d) i downlink child (record {
          caller_there = Contains-get_or b.nodes k d h;
          node_there = place.0;
          downlink_there = at;
          path = place.1;
        });
  }

  -- so what decides the one decides the other
  pub decided_by_parts : (answer : Bool) → (IsTrue answer ↔ AgreesInParts system b) →
      IsTrue answer ↔ Agrees system b
  decided_by_parts answer decides =
      (λ agree. agree_by_parts (decides.0 agree), λ agrees. decides.1 (parts_agree agrees))

-- where all nodes hold, the parts agree exactly if the calls do
pub decided_by_calls : (system : System) (b : Binding) (answer : Bool) →
    All (NodeHolds system) b.nodes → (IsTrue answer ↔ All (CallsAgree system b) b.nodes) →
    IsTrue answer ↔ AgreesInParts system b
decided_by_calls system b answer hold decides =
    (λ agree. record { nodes = hold; calls = decides.0 agree }, λ parts. decides.1 parts.calls)
