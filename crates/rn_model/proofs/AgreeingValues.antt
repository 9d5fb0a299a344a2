-- Values and kinds of the inscriptions of nodes that agree.
use Rattle.std.proofs.Common.{◌≡◌, ℕ, ℤ, suc, Bool, true, false, ◌&&◌, not, List, [], ◌∷◌}
use Rattle.std.proofs.Common.{◌++◌, map, refl, subst}
use Rattle.std.specs.Prelude.{Option, Some, None, Contains, filter, flat_map, slice_get, zip}
use Rattle.std.specs.Prelude.{nat_eq, if◌then◌else◌}
use Rattle.std.specs.List.{AllZip, AllByRecursion}
use Rattle.std.specs.Option.{option_map_or}
use Rattle.std.proofs.lemmas.Bool.{eqb-true}
use Rattle.std.proofs.lemmas.Option.{same_Some}
use Rattle.std.proofs.lemmas.List.Elements.{All-contains, All-from_recursion}
use Rattle.rn_value.specs.Kinds.{HasKind}
use Rattle.rn_value.specs.declared.value.Kind.{Kind}
use Rattle.rn_value.specs.declared.value.Value.{Value}
use Rattle.rn_model.specs.declared.expr.CompareKind.{CompareKind}
use Rattle.rn_model.specs.declared.expr.CompareKind.TheVariants.{Same, Differs, Less, AtMost}
use Rattle.rn_model.specs.declared.expr.CompareKind.TheVariants.{Greater, AtLeast}
use Rattle.rn_model.specs.declared.expr.Expr.{Expr}
use Rattle.rn_model.specs.declared.expr.Cond.{Cond}
use Rattle.rn_model.specs.declared.system.System.{System}
use Rattle.rn_model.specs.declared.system.Net.{Net}
use Rattle.rn_model.specs.declared.system.Transition.{Transition}
use Rattle.rn_model.specs.declared.system.Action.{Action}
use Rattle.rn_model.specs.declared.system.Action.TheVariants.{Set, Print}
use Rattle.rn_model.specs.declared.system.Uplink.{Uplink}
use Rattle.rn_model.specs.declared.binding.Node.{Node}
use Rattle.rn_model.specs.declared.binding.Binding.{Binding}
use Rattle.rn_model.specs.Lists.{HaveOneValue, value_beside}
use Rattle.rn_model.specs.Systems.{net_at, transition_at, transition_of, var_kind, is_output}
use Rattle.rn_model.specs.Systems.{awaits_action, uplink_args, channel_kinds}
use Rattle.rn_model.specs.Kinds.{HasExprKind, ShareKind}
use Rattle.rn_model.specs.Evaluation.{Env, worth, IsTrueUnder}
use Rattle.rn_model.specs.Bindings.{Shape, IsNodeOf, env_of}
use Rattle.rn_model.specs.Agreement.{Agrees, NodeAgrees, ArcAgrees, HasValueOf, HaveKindsOf}
use Rattle.rn_model.specs.Good.{Good, Comparison, CanCompare, BothInt}
use Rattle.rn_model.specs.Good.{IsWellKinded, IsGoodCall, IsGoodAction, IsGoodArc, action_expr}
use Rattle.rn_model.specs.Good.{comparisons_in, guard_exprs, searched_exprs, output_exprs}
use Rattle.rn_model.specs.Good.{all_exprs}
use Rattle.rn_model.specs.ExpressionLaws.{HaveKinds, OperandsAreFit}
use Rattle.rn_model.specs.AgreementLaws.{ExpressionsHaveKinds, AgreeingOperandsAreFit, bound_exprs}
use Rattle.rn_model.specs.AgreementLaws.{InscriptionsHaveValues, MayCompare, ComparesValues}
use Rattle.rn_model.specs.AgreementLaws.{GuardsCompareValues}
use Rattle.rn_model.proofs.AskedValues.{contained_flat, got_contained}
use Rattle.rn_model.proofs.EachElement.{each_append, each_map, each_flat_map, each_weaker}
use Rattle.rn_model.proofs.EachElement.{each_filter}
use Rattle.rn_model.proofs.MarkingsOfRuns.{good_transition}
use Rattle.rn_items.proofs.Bools.{both_true}
use Rattle.rn_model.proofs.OperandKinds.{HasSome, values_have_kinds, int_of_kind, operands_fit}
use Rattle.rn_model.proofs.ReadConditions.{each_in, sides_of}
use Rattle.rn_model.proofs.DefinedConditions.{HasValue, defined_sides}

-- values beside their variables have their kinds
pub beside_kind : (kinds : ℕ → Kind) (xs : List ℕ) (vs : List Value) →
    AllZip (λ x v. HasKind v (kinds x)) xs vs → (x : ℕ) (v : Value) →
    value_beside (zip xs vs) x ≡ Some v → HasKind v (kinds x)
beside_kind kinds [] [] all x v e = absurd (let no : ⊥ = cc in no)
beside_kind kinds [] (w ∷ vs) all x v e = absurd all
beside_kind kinds (y ∷ xs) [] all x v e = absurd all
beside_kind kinds (y ∷ xs) (w ∷ vs) all x v e =
    first_or_later (nat_eq y x) refl (λ e. beside_kind kinds xs vs all.1 x v e) e
  where
    first_or_later : (same : Bool) → nat_eq y x ≡ same →
        (value_beside (zip xs vs) x ≡ Some v → HasKind v (kinds x)) →
        (if same then Some w else value_beside (zip xs vs) x) ≡ Some v → HasKind v (kinds x)
    first_or_later true same later e =
        subst (λ u. HasKind u (kinds x)) (same_Some w v e)
        (subst (λ z. HasKind w (kinds z)) (eqb-true y x same) all.0)
    first_or_later false same later e = later e

-- what holds of each element at its index holds of each element
pub each_indexed : {X : Type 0} (P : X → Type 0) (xs : List X) →
    ((k : ℕ) (x : X) → slice_get xs k ≡ Some x → P x) → AllByRecursion P xs
each_indexed P [] f = tt
each_indexed P (x ∷ xs) f = (f 0 x refl, each_indexed P xs (λ k y e. f (suc k) y e))

-- what holds of the first elements, pair by pair
zip_first : {X Y : Type 0} (R : X → Y → Type 0) (P : X → Type 0) → ((x : X) (y : Y) → R x y → P x) →
    (xs : List X) (ys : List Y) → AllZip R xs ys → AllByRecursion P xs
zip_first R P f [] ys all = tt
zip_first R P f (x ∷ xs) [] all = absurd all
zip_first R P f (x ∷ xs) (y ∷ ys) all = (f x y all.0, zip_first R P f xs ys all.1)

-- What holds of the expressions outside actions and outputs.
module _ (P : Expr → Type 0) (t : Transition) where
  record Searched : Type 0 where
    equalities : AllByRecursion (λ e. P e.0 × P e.1) t.equalities
    guards : AllByRecursion (λ g. AllByRecursion (λ c. P c.left × P c.right) (comparisons_in g))
        t.guards
    uplink : AllByRecursion P (uplink_args t)
    downlinks : AllByRecursion (λ d. P d.target × AllByRecursion P d.args) t.downlinks
    arcs : AllByRecursion (λ arc. is_output arc.kind ≡ false → P arc.inscription) t.arcs

  abbrev sides : List Expr
  sides = flat_map (λ e. e.0 ∷ e.1 ∷ []) t.equalities

  abbrev guarded : List Expr
  guarded = flat_map guard_exprs t.guards

  abbrev called : List Expr
  called = flat_map (λ d. d.target ∷ d.args) t.downlinks

  abbrev inscribed : List Expr
  inscribed = map (λ arc. arc.inscription) (filter (λ arc. not (is_output arc.kind)) t.arcs)

  no_output : (output : Bool) → not output ≡ true → output ≡ false
  no_output true e = absurd (let no : ⊥ = cc in no)
  no_output false e = refl

  sides_are : Searched → AllByRecursion P sides
  sides_are s =
      each_flat_map P (λ e. e.0 ∷ e.1 ∷ []) t.equalities
      (each_weaker (λ e. P e.0 × P e.1) (λ e. AllByRecursion P (e.0 ∷ e.1 ∷ []))
      (λ e p. (p.0, (p.1, tt))) t.equalities s.equalities)

  guarded_are : Searched → AllByRecursion P guarded
  guarded_are s =
      each_flat_map P guard_exprs t.guards
      (each_weaker (λ g. AllByRecursion (λ c. P c.left × P c.right) (comparisons_in g))
      (λ g. AllByRecursion P (guard_exprs g))
      (λ g p. each_flat_map P sides_of (comparisons_in g)
      (each_weaker (λ c. P c.left × P c.right) (λ c. AllByRecursion P (sides_of c))
      (λ c q. (q.0, (q.1, tt))) (comparisons_in g) p)) t.guards s.guards)

  called_are : Searched → AllByRecursion P called
  called_are s = each_flat_map P (λ d. d.target ∷ d.args) t.downlinks s.downlinks

  inscribed_are : Searched → AllByRecursion P inscribed
  inscribed_are s =
      each_map P (λ arc. arc.inscription) (filter (λ arc. not (is_output arc.kind)) t.arcs)
      (each_filter (λ arc. P arc.inscription) (λ arc. not (is_output arc.kind)) t.arcs
      (each_weaker (λ arc. is_output arc.kind ≡ false → P arc.inscription)
      (λ arc. not (is_output arc.kind) ≡ true → P arc.inscription)
      (λ arc p e. p (no_output (is_output arc.kind) e)) t.arcs s.arcs))

  each_searched : Searched → AllByRecursion P (searched_exprs t)
  each_searched s =
      each_append P (((sides ++ guarded) ++ uplink_args t) ++ called) inscribed
      (each_append P ((sides ++ guarded) ++ uplink_args t) called
      (each_append P (sides ++ guarded) (uplink_args t)
      (each_append P sides guarded (sides_are s) (guarded_are s)) s.uplink) (called_are s))
      (inscribed_are s)

uplink_each : {Q : Uplink → Type 0} (P : Expr → Type 0) → ((u : Uplink) → Q u →
    AllByRecursion P u.args) → (o : Option Uplink) → ((u : Uplink) → o ≡ Some u → Q u) →
    AllByRecursion P (option_map_or (λ u. u.args) o [])
uplink_each P f None all = tt
uplink_each P f (Some u) all = f u (all u refl)

-- The expressions of a good transition have kinds.
module _ (system : System) (net : Net) (kinds : ℕ → Kind) (t : Transition)
    (good : IsWellKinded system net kinds t) where
  abbrev Some_kind : Expr → Type 0
  Some_kind = HasSome kinds

  call_kinds : (channel : ℕ) (args : List Expr) → IsGoodCall system kinds channel args →
      AllByRecursion Some_kind args
  call_kinds channel args call =
      zip_first (HasExprKind kinds) Some_kind (λ e kind has. (kind, has)) args
      (channel_kinds system channel) call.fits

  compared_kinds : (c : Comparison) (kind : CompareKind) → CanCompare kinds c kind →
      Some_kind c.left × Some_kind c.right
  compared_kinds c Same (kind, left, right) = ((kind, left), (kind, right))
  compared_kinds c Differs (kind, left, right) = ((kind, left), (kind, right))
  compared_kinds c Less (left, right) = ((Kind.Int, left), (Kind.Int, right))
  compared_kinds c AtMost (left, right) = ((Kind.Int, left), (Kind.Int, right))
  compared_kinds c Greater (left, right) = ((Kind.Int, left), (Kind.Int, right))
  compared_kinds c AtLeast (left, right) = ((Kind.Int, left), (Kind.Int, right))

  pub can_compare : (g : Cond) → Contains t.guards g → (c : Comparison) →
      Contains (comparisons_in g) c → CanCompare kinds c c.kind
  can_compare g g_there c there =
      All-contains (λ c. CanCompare kinds c c.kind) (flat_map comparisons_in t.guards) c good.guards
      (contained_flat comparisons_in t.guards g c g_there there)

  searched_kinds : AllByRecursion Some_kind (searched_exprs t)
  searched_kinds = each_searched Some_kind t (record {
    equalities = each_in (λ e. Some_kind e.0 × Some_kind e.1) t.equalities (λ e there.
        let share = All-contains (λ e. ShareKind kinds e.0 e.1) t.equalities e good.equalities there
        in
        ((share.0, share.1), (share.0, share.2)));
    guards = each_in (λ g. AllByRecursion (λ c. Some_kind c.left × Some_kind c.right)
        (comparisons_in g)) t.guards (λ g g_there.
        each_in (λ c. Some_kind c.left × Some_kind c.right) (comparisons_in g) (λ c there.
        compared_kinds c c.kind (can_compare g g_there c there)));
    uplink = uplink_each Some_kind (λ u call. call_kinds u.channel u.args call) t.uplink
        good.uplink;
    downlinks = each_in (λ d. Some_kind d.target × AllByRecursion Some_kind d.args) t.downlinks
        (λ d there.
        let call = All-contains
        (λ d. HasExprKind kinds d.target Kind.Net × IsGoodCall system kinds d.channel d.args)
        t.downlinks d good.downlinks there in
        ((Kind.Net, call.0), call_kinds d.channel d.args call.1));
    arcs = each_in (λ arc. is_output arc.kind ≡ false → Some_kind arc.inscription) t.arcs
        (λ arc there none.
        (_, (All-contains (IsGoodArc net kinds) t.arcs arc good.arcs there).kind));
  })

  action_kind : (a : Action) → IsGoodAction kinds a → Some_kind (action_expr a)
  action_kind (Set x e) has = (kinds x, has)
  action_kind (Print e) has = has

  pub all_kinds : AllByRecursion Some_kind (all_exprs t)
  all_kinds =
      each_append Some_kind (searched_exprs t ++ output_exprs t) (map action_expr t.actions)
      (each_append Some_kind (searched_exprs t) (output_exprs t) searched_kinds
      (each_map Some_kind (λ arc. arc.inscription) (filter (λ arc. is_output arc.kind) t.arcs)
      (each_filter (λ arc. Some_kind arc.inscription) (λ arc. is_output arc.kind) t.arcs
      (each_in (λ arc. is_output arc.kind ≡ true → Some_kind arc.inscription) t.arcs
      (λ arc there output.
      (_, (All-contains (IsGoodArc net kinds) t.arcs arc good.arcs there).kind))))))
      (each_map Some_kind action_expr t.actions
      (each_in (λ a. Some_kind (action_expr a)) t.actions (λ a there.
      action_kind a (All-contains (IsGoodAction kinds) t.actions a good.actions there))))

pub expressions_have_kinds : ExpressionsHaveKinds
expressions_have_kinds system n k e good h j there =
    let t = transition_at system n k in
    let all = all_kinds system (net_at system n) (var_kind system n) t
    (good_transition system n k good h j).kinds in
    All-contains (HasSome (var_kind system n)) (all_exprs t) e
    (All-from_recursion (HasSome (var_kind system n)) (all_exprs t) all) there

-- A node of a binding that agrees, in a good system.
module _ (system : System) (b : Binding) (depth : ℕ) (node : Node) (good : Good system)
    (shape : Shape system b depth) (agrees : Agrees system b) (there : Contains b.nodes node) where
  abbrev t : Transition
  t = transition_of system node

  abbrev env : Env
  env = env_of system node

  abbrev kinds : ℕ → Kind
  kinds = var_kind system node.net

  of : IsNodeOf system node
  of = All-contains (IsNodeOf system) b.nodes node shape.nodes there

  own : NodeAgrees system node
  own = All-contains (NodeAgrees system) b.nodes node agrees.nodes there

  have : HaveKinds kinds env
  have = beside_kind kinds t.vars node.values own.kinds

  well : IsWellKinded system (net_at system node.net) kinds t
  well = (good_transition system node.net node.transition good of.net of.transition).kinds

  pub node_operands : (e : Expr) → Contains (all_exprs (transition_of system node)) e →
      OperandsAreFit (env_of system node) e
  node_operands e is =
      operands_fit kinds env have e
      (expressions_have_kinds system node.net node.transition e good of.net of.transition is)

  abbrev Valued : Expr → Type 0
  Valued = HasValue env

  args_valued : (channel : ℕ) (args : List Expr) → HaveKindsOf system env channel args →
      AllByRecursion Valued args
  args_valued channel args all =
      zip_first (HasValueOf env) Valued (λ e kind has. (has.0, has.1)) args
      (channel_kinds system channel) all

  searched_valued : AllByRecursion Valued (searched_exprs t)
  searched_valued = each_searched Valued t (record {
    equalities = each_in (λ e. Valued e.0 × Valued e.1) t.equalities (λ e is.
        let one = All-contains (λ e. HaveOneValue (worth e.0 env) (worth e.1 env)) t.equalities e
        own.equalities is in
        ((one.0, one.1), (one.0, one.2)));
    guards = each_in (λ g. AllByRecursion (λ c. Valued c.left × Valued c.right)
        (comparisons_in g)) t.guards (λ g is.
        let holds = All-contains (IsTrueUnder env) t.guards g own.guards is in
        each_in (λ c. Valued c.left × Valued c.right) (comparisons_in g)
        (defined_sides env g (true, holds)));
    uplink = uplink_each Valued (λ u all. args_valued u.channel u.args all) t.uplink own.uplink;
    downlinks = each_indexed (λ d. Valued d.target × AllByRecursion Valued d.args) t.downlinks
        (λ i d at.
        let child = shape.children node i d there at in
        let call = agrees.calls node i d child.0 child.1 in
        let args = All-contains (λ d. HaveKindsOf system env d.channel d.args) t.downlinks d
        own.downlinks (got_contained t.downlinks i d at) in
        ((Value.Inst child.0.inst, call.target), args_valued d.channel d.args args));
    arcs = each_in (λ arc. is_output arc.kind ≡ false → Valued arc.inscription) t.arcs
        (λ arc is none.
        let has = All-contains (ArcAgrees system node) t.arcs arc own.arcs is (rw none refl) in
        (has.0, has.1));
  })

  -- an output that holds no action variable has a value
  outputs_valued : AllByRecursion Valued
      (map (λ arc. arc.inscription)
      (filter (λ arc. is_output arc.kind && not (awaits_action t arc)) t.arcs))
  outputs_valued =
      each_map Valued (λ arc. arc.inscription)
      (filter (λ arc. is_output arc.kind && not (awaits_action t arc)) t.arcs)
      (each_filter (λ arc. Valued arc.inscription)
      (λ arc. is_output arc.kind && not (awaits_action t arc)) t.arcs
      (each_in (λ arc. is_output arc.kind && not (awaits_action t arc) ≡ true →
      Valued arc.inscription) t.arcs (λ arc is bound.
      let both = both_true (is_output arc.kind) (not (awaits_action t arc)) bound in
      let has = All-contains (ArcAgrees system node) t.arcs arc own.arcs is
      (no_output Valued t (awaits_action t arc) both.1) in
      (has.0, has.1))))

  bound_valued : (e : Expr) → Contains (bound_exprs t) e → Valued e
  bound_valued e is =
      All-contains Valued (bound_exprs t) e
      (All-from_recursion Valued (bound_exprs t)
      (each_append Valued (searched_exprs t)
      (map (λ arc. arc.inscription)
      (filter (λ arc. is_output arc.kind && not (awaits_action t arc)) t.arcs))
      searched_valued outputs_valued)) is

  pub node_values : (e : Expr) → Contains (bound_exprs (transition_of system node)) e →
      ((v : Value) × (worth e (env_of system node) ≡ Some v))
      × ((kind : Kind) → HasExprKind (var_kind system node.net) e kind →
      HasValueOf (env_of system node) e kind)
  node_values e is =
      let value = bound_valued e is in (
        value,
        λ kind has.
            (value.0, value.1, values_have_kinds kinds env e kind value.0 have has value.1),
      )

  ints_of : (c : Comparison) → BothInt kinds c → (v w : Value) → worth c.left env ≡ Some v →
      worth c.right env ≡ Some w → (x y : ℤ) × (v ≡ Value.Int x) × (w ≡ Value.Int y)
  ints_of c can v w p q =
      let at = λ (e : Expr) (u : Value) (has : HasExprKind kinds e Kind.Int)
      (is : worth e env ≡ Some u).
      int_of_kind u (values_have_kinds kinds env e Kind.Int u have has is) in
      let left = at c.left v can.0 p in
      let right = at c.right w can.1 q in
      (left.0, right.0, left.1, right.1)

  shared : (c : Comparison) → ShareKind kinds c.left c.right → (v w : Value) →
      worth c.left env ≡ Some v → worth c.right env ≡ Some w →
      (kind : Kind) × HasKind v kind × HasKind w kind
  shared c (kind, left, right) v w p q = (
    kind,
    values_have_kinds kinds env c.left kind v have left p,
    values_have_kinds kinds env c.right kind w have right q,
  )

  may_compare : (c : Comparison) (kind : CompareKind) → CanCompare kinds c kind → (v w : Value) →
      worth c.left env ≡ Some v → worth c.right env ≡ Some w → MayCompare kind v w
  may_compare c Same can v w p q = shared c can v w p q
  may_compare c Differs can v w p q = shared c can v w p q
  may_compare c Less can v w p q = ints_of c can v w p q
  may_compare c AtMost can v w p q = ints_of c can v w p q
  may_compare c Greater can v w p q = ints_of c can v w p q
  may_compare c AtLeast can v w p q = ints_of c can v w p q

  pub compares_values : (g : Cond) → Contains (transition_of system node).guards g →
      (c : Comparison) → Contains (comparisons_in g) c → ComparesValues (env_of system node) c
  compares_values g is c in_g =
      let holds = All-contains (IsTrueUnder env) t.guards g own.guards is in
      let sides = defined_sides env g (true, holds) c in_g in
      let left = sides.0 in
      let right = sides.1 in
      let can = can_compare system (net_at system node.net) kinds t well g is c in_g in
      (left.0, right.0, left.1, right.1, may_compare c c.kind can left.0 right.0 left.1 right.1)

pub agreeing_operands_are_fit : AgreeingOperandsAreFit
agreeing_operands_are_fit system b depth node e good shape agrees there is =
    node_operands system b depth node good shape agrees there e is

pub inscriptions_have_values : InscriptionsHaveValues
inscriptions_have_values system b depth node e good shape agrees there is =
    node_values system b depth node good shape agrees there e is

pub guards_compare_values : GuardsCompareValues
guards_compare_values system b depth node guard c good shape agrees there is in_guard =
    compares_values system b depth node good shape agrees there guard is c in_guard
