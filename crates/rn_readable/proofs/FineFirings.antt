-- The firing of a binding that is enabled at fine tokens leaves fine tokens, and what it prints is
-- fine.
use Rattle.std.proofs.Common.{◌≡◌, ℕ, ◌<◌, ◌≤◌, Bool, true, false, List, [], ◌∷◌}
use Rattle.std.proofs.Common.{◌++◌, map, refl, sym, subst, inl, inr, arith}
use Rattle.std.specs.Prelude.{All, cond, Option, Some, None, Ok, Contains, zip, nat_eq, slice_get}
use Rattle.std.specs.Prelude.{unwrap_or, option_map, option_and_then, if◌then◌else◌}
use Rattle.std.proofs.lemmas.Bool.{eqb-true}
use Rattle.std.proofs.lemmas.List.Elements.{All-contains, Contains-append_right}
use Rattle.std.proofs.lemmas.Option.{same_Some, slice_get-map}
use Rattle.rn_value.specs.Kinds.{HasKind}
use Rattle.rn_value.specs.declared.value.InstRef.{InstRef}
use Rattle.rn_value.specs.declared.value.InstRef.TheVariants.{Old}
use Rattle.rn_value.specs.declared.value.Value.{Value}
use Rattle.rn_model.specs.declared.system.System.{System}
use Rattle.rn_model.specs.declared.system.Net.{Net}
use Rattle.rn_model.specs.declared.system.Place.{Place}
use Rattle.rn_model.specs.declared.system.Action.{Action}
use Rattle.rn_model.specs.declared.system.Action.TheVariants.{Set, Print}
use Rattle.rn_model.specs.declared.binding.Node.{Node}
use Rattle.rn_model.specs.declared.binding.Binding.{Binding}
use Rattle.rn_model.specs.Good.{Good, IsGoodTransition, IsGoodAction, action_expr, all_exprs}
use Rattle.rn_model.specs.Good.{searched_exprs, output_exprs}
use Rattle.rn_model.specs.Kinds.{expr_depth}
use Rattle.rn_model.specs.Lists.{ordered_values, value_beside}
use Rattle.rn_model.specs.Systems.{net_at, empty_net, main_net, transition_of, var_kind}
use Rattle.rn_model.specs.Systems.{var_kind_in}
use Rattle.rn_model.specs.Evaluation.{Env}
use Rattle.rn_model.specs.Bindings.{IsNodeOf, env_of}
use Rattle.rn_model.specs.Agreement.{NodeAgrees}
use Rattle.rn_model.specs.Demands.{asked_at, puts}
use Rattle.rn_model.specs.Markings.{Marking, Instance, instance_at, tokens_at, initial_marking}
use Rattle.rn_model.specs.Markings.{fresh_instance}
use Rattle.rn_model.specs.Enabling.{Enabled}
use Rattle.rn_model.specs.Firing.{Fired, fire, creations_of, named, numbered_inst}
use Rattle.rn_model.specs.Firing.{renamed_value, renamed_node, marking_after}
use Rattle.rn_model.proofs.AskedValues.{later, contained_mapped, from_ordered}
use Rattle.rn_model.proofs.AskedValues.{map_source}
use Rattle.rn_model.proofs.AfterFiring.{token_from}
use Rattle.rn_model.proofs.DeadInstances.{FiredAs, fired_as}
use Rattle.rn_model.proofs.EachElement.{at_place}
use Rattle.rn_model.proofs.EnablingLemmas.{not_in_nil}
use Rattle.rn_model.proofs.KindsOfValues.{worth_has_kind, beside_has_kind}
use Rattle.rn_model.proofs.MarkingsOfRuns.{good_transition}
use Rattle.rn_model.proofs.PutValues.{StaysSo, reading_stays, put_from, printed}
use Rattle.rn_readable.proofs.MendedValues.{IsFine, renamed_is_fine, each_put_is_fine}
use Rattle.rn_readable.proofs.ShallowValues.{of_var_kind}
use Rattle.rn_readable.proofs.FineReadings.{IsFineEnv, IsFineUpTo, worth_is_fine}
use Rattle.rn_readable.proofs.FineBindings.{IsFineExpr, IsFineTransition, IsFineNet, IsFineSystem}
use Rattle.rn_readable.proofs.FineBindings.{HasFineTokens, fine_transition, value_is_fine}

-- the value beside a number is one of the values
first_or_other : (w v : Value) (vs : List Value) (other : Option Value) (same : Bool) →
    (other ≡ Some v → Contains vs v) → (if same then Some w else other) ≡ Some v →
    Contains (w ∷ vs) v
first_or_other w v vs other true f e = (0, omega arith, same_Some w v e)
first_or_other w v vs other false f e = later w v vs (f e)

beside_is_there : (xs : List ℕ) (vs : List Value) (x : ℕ) (v : Value) →
    value_beside (zip xs vs) x ≡ Some v → Contains vs v
beside_is_there [] vs x v e = absurd (let no : ⊥ = cc in no)
beside_is_there (y ∷ xs) [] x v e = absurd (let no : ⊥ = cc in no)
beside_is_there (y ∷ xs) (w ∷ vs) x v e =
    first_or_other w v vs (value_beside (zip xs vs) x) (nat_eq y x) (beside_is_there xs vs x v) e

-- an initial token of a net that is fine
initial_is_fine : (system : System) (fine : IsFineSystem system) (n place : ℕ) (p : Place)
    (v : Value) → slice_get (net_at system n).places place ≡ Some p → Contains p.initial v →
    IsFine v
initial_is_fine system fine n place p v is there =
    by_net (slice_get system.nets n) refl is
  where
    by_net : (o : Option Net) → slice_get system.nets n ≡ o →
        slice_get (unwrap_or o empty_net).places place ≡ Some p → IsFine v
    by_net None e here = absurd (let no : ⊥ = cc in no)
    by_net (Some net) e here =
        let its : IsFineNet net = at_place IsFineNet system.nets n net fine e in
        All-contains IsFine p.initial v
        (at_place (λ place. All IsFine place.initial) net.places place p its.initial here) there

module _ (system : System) (m : Marking) (b : Binding) (depth step : ℕ) (f : Fired)
    (good : Good system) (fine : IsFineSystem system) (tokens_fine : HasFineTokens m)
    (enabled : Enabled system m b depth) (fires : fire system m b step ≡ Ok f)
    (low : step < 9223372036854775808) where
  abbrev fired : FiredAs system m b step f
  fired = fired_as system m b step f fires

  abbrev named_b : Binding
  named_b = named system b m.next

  abbrev name : InstRef → InstRef
  name = numbered_inst (creations_of system b) m.next

  -- a value is fine and has the kind of its variable
  abbrev IsItsValue : Node → ℕ → Value → Type 0
  IsItsValue node x v = IsFine v × HasKind v (var_kind system node.net x)

  -- what a node is read under after some of its actions
  record HasItsValues (node : Node) (env : Env) : Type 0 where
    number : (n : ℕ) → env.step ≡ Some n → n < 9223372036854775808
    values : (x : ℕ) (v : Value) → value_beside env.pairs x ≡ Some v → IsItsValue node x v

  fine_env : (node : Node) (env : Env) → HasItsValues node env → IsFineEnv 64 env
  fine_env node env has = record {
    step = has.number;
    values = λ x v is.
        let value = has.values x v is in
        (value.0, of_var_kind system good node.net x v value.1);
  }

  named_from : (node : Node) → Contains named_b.nodes node →
      (first : Node) × Contains b.nodes first × (renamed_node name first ≡ node)
  named_from node there = map_source (renamed_node name) b.nodes node there

  node_of : (first : Node) → Contains b.nodes first → IsNodeOf system first
  node_of first there = All-contains (IsNodeOf system) b.nodes first enabled.shape.nodes there

  good_of : (node : Node) → Contains named_b.nodes node →
      IsGoodTransition system (net_at system node.net) (transition_of system node)
  good_of node there =
      let from = named_from node there in
      let of = node_of from.0 from.1 in
      subst (λ n. IsGoodTransition system (net_at system n.net) (transition_of system n)) from.2
      (good_transition system from.0.net from.0.transition good of.net of.transition)

  fine_of : (node : Node) → Contains named_b.nodes node →
      IsFineTransition (transition_of system node)
  fine_of node there =
      let from = named_from node there in
      let of = node_of from.0 from.1 in
      subst (λ n. IsFineTransition (transition_of system n)) from.2
      (fine_transition system from.0.net from.0.transition fine of.net of.transition)

  first_values : (first : Node) → Contains b.nodes first →
      HasItsValues (renamed_node name first)
      (record (env_of system (renamed_node name first)) { step = Some step })
  first_values first there =
      let agrees : NodeAgrees system first =
      All-contains (NodeAgrees system) b.nodes first enabled.agrees.nodes there in
      let xs = (transition_of system first).vars in
      record {
        number = λ n is. subst (λ k. k < 9223372036854775808) (same_Some step n is) low;
        values = λ x v is.
            let has = beside_is_there xs (map (λ v. renamed_value v name) first.values) x v is in
            let from = map_source (λ v. renamed_value v name) first.values v has in
            let was_fine = value_is_fine system m b depth fine tokens_fine enabled good first
            from.0 there from.1 in (
              subst IsFine from.2 (renamed_is_fine name from.0 was_fine),
              beside_has_kind name (var_kind system first.net) xs first.values agrees.kinds x v is,
            );
      }

  begins : (node : Node) → Contains named_b.nodes node →
      HasItsValues node (record (env_of system node) { step = Some step })
  begins node there =
      let from = named_from node there in
      subst (λ n. HasItsValues n (record (env_of system n) { step = Some step })) from.2
      (first_values from.0 from.1)

  set_or_before : (node : Node) (pairs : List (ℕ × Value)) (x y : ℕ) (v w : Value) (same : Bool) →
      nat_eq x y ≡ same → IsItsValue node x v →
      ((z : ℕ) (u : Value) → value_beside pairs z ≡ Some u → IsItsValue node z u) →
      (if same then Some v else value_beside pairs y) ≡ Some w → IsItsValue node y w
  set_or_before node pairs x y v w true same new others e =
      subst (IsItsValue node y) (same_Some v w e)
      (subst (λ z. IsItsValue node z v) (eqb-true x y same) new)
  set_or_before node pairs x y v w false same new others e = others y w e

  action_is_fine : (node : Node) (a : Action) → Contains named_b.nodes node →
      Contains (transition_of system node).actions a → IsFineExpr (action_expr a)
  action_is_fine node a there has =
      All-contains (λ a. IsFineExpr (action_expr a)) (transition_of system node).actions a
      (fine_of node there).actions has

  stays : StaysSo system step named_b.nodes HasItsValues
  stays = record {
    begins = begins;
    goes_on = λ node x e v env there has before value.
        let kinds = var_kind system node.net in
        let action = All-contains (IsGoodAction (var_kind_in (net_at system node.net)))
        (transition_of system node).actions (Set x e) (good_of node there).kinds.actions has in
        let kind : HasKind v (kinds x) =
        worth_has_kind kinds env (λ z u is. (before.values z u is).1) e (kinds x) action v value in
        let new = worth_is_fine 64 env (fine_env node env before) e
        (action_is_fine node (Set x e) there has) v value in
        record {
          number = before.number;
          values = λ y w found.
              set_or_before node env.pairs x y v w (nat_eq x y) refl (new.0, kind) before.values
              found;
        };
  }

  put_is_fine : (n place : ℕ) (v : Value) →
      Contains (asked_at puts system fired.acts.read (Old n) place) v → IsFine v
  put_is_fine n place v put =
      let from = put_from system fired.acts.read (Old n) place v put in
      let reading = reading_stays system step HasItsValues named_b.nodes stays fired.acts fired.are
      from.reading from.there in
      let node = from.reading.node in
      let constants = All-contains (λ arc. IsFineExpr arc.inscription)
      (transition_of system node).arcs from.arc (fine_of node reading.0).arcs from.arc_there in
      let value = worth_is_fine 64 from.reading.env (fine_env node from.reading.env reading.1)
      from.arc.inscription constants from.value from.worth_is in
      each_put_is_fine from.arc.kind from.value v value.0 from.put

  -- each token after the firing was there, is an initial one, or is put
  after_by : (n place : ℕ) (v : Value) (o : Option Instance) →
      instance_at (marking_after system m (creations_of system b) named_b fired.acts) n ≡ o →
      Contains (unwrap_or (option_and_then (λ i. slice_get i.places place) o) []) v → IsFine v
  after_by n place v None is there = absurd (not_in_nil v there)
  after_by n place v (Some i) is there =
      let after = marking_after system m (creations_of system b) named_b fired.acts in
      let held : Contains (tokens_at after n place) v =
      subst (λ o. Contains (unwrap_or (option_and_then (λ i. slice_get i.places place) o) []) v)
      (sym is) there in
      elim (token_from system m (creations_of system b) named_b fired.acts n place v i is held)
      as (λ _. IsFine v) [
        | inl (j, found, before) ↦ tokens_fine n place v before
        | inr other ↦ elim other as (λ _. IsFine v) [
          | inl (c, p, new, place_is, first) ↦
              initial_is_fine system fine c.net place p v place_is first
          | inr put ↦ put_is_fine n place v put
        ]
      ]

  after_is_fine :
      HasFineTokens (marking_after system m (creations_of system b) named_b fired.acts)
  after_is_fine n place v there =
      after_by n place v
      (instance_at (marking_after system m (creations_of system b) named_b fired.acts) n) refl
      there

  pub tokens_stay_fine : HasFineTokens f.marking
  tokens_stay_fine = subst HasFineTokens fired.marking after_is_fine

  -- what is printed is fine, and no deeper than an expression and the values in it together
  out_is_fine : (v : Value) → Contains fired.acts.outs v → IsFineUpTo 128 v
  out_is_fine v there =
      printed system step HasItsValues (IsFineUpTo 128) named_b.nodes stays
      (λ node e w env has prints its value.
      let t = transition_of system node in
      let shown = worth_is_fine 64 env (fine_env node env its) e
      (action_is_fine node (Print e) has prints) w value in
      let among : Contains (all_exprs t) e =
      Contains-append_right (searched_exprs t ++ output_exprs t) (map action_expr t.actions) e
      (contained_mapped action_expr t.actions (Print e) prints) in
      let deep : expr_depth e ≤ 64 =
      All-contains (λ e. expr_depth e ≤ 64) (all_exprs t) e (good_of node has).deep among in
      let bound = shown.1 in
      (shown.0, omega (arith, deep, bound)))
      fired.acts fired.are v there

  pub outs_are_fine : (v : Value) → Contains f.outs v → IsFineUpTo 128 v
  outs_are_fine v there =
      out_is_fine v (subst (λ outs. Contains outs v) (sym fired.outs) there)

-- the initial tokens are fine
module _ (system : System) (fine : IsFineSystem system) where
  abbrev first : Instance
  first = fresh_instance system 1 (main_net system)

  of_place : (place : ℕ) (v : Value) (o : Option Place) →
      slice_get (net_at system (main_net system)).places place ≡ o →
      Contains (unwrap_or (option_map (λ p. ordered_values p.initial) o) []) v → IsFine v
  of_place place v None is there = absurd (not_in_nil v there)
  of_place place v (Some p) is there =
      initial_is_fine system fine (main_net system) place p v is (from_ordered v p.initial there)

  of_first : (same : Bool) (place : ℕ) (v : Value) →
      Contains (unwrap_or (option_and_then (λ i. slice_get i.places place)
      (cond same (Some first) None)) []) v → IsFine v
  of_first true place v there =
      let places = (net_at system (main_net system)).places in
      of_place place v (slice_get places place) refl
      (subst (λ o. Contains (unwrap_or o []) v)
      (slice_get-map (λ p. ordered_values p.initial) places place) there)
  of_first false place v there = absurd (not_in_nil v there)

  pub initial_tokens_are_fine : HasFineTokens (initial_marking system)
  initial_tokens_are_fine n place v there = of_first (nat_eq 1 n) place v there
