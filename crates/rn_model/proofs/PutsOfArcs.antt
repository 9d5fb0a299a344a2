-- How many tokens the arcs of a node put after its actions: at most what was counted before them.
use Rattle.std.proofs.Common.{◌≡◌, ℕ, ◌+◌, ◌≤◌, Bool, true, false, ◌&&◌, not, List}
use Rattle.std.proofs.Common.{[], ◌∷◌, map, length, length-append, refl, sym, ap, ◌∙◌}
use Rattle.std.proofs.Common.{arith}
use Rattle.std.specs.Prelude.{Option, Some, None, Contains, filter, flat_map, nat_eq, unwrap_or}
use Rattle.std.specs.Prelude.{zip, option_map, if◌then◌else◌}
use Rattle.std.specs.List.{AllByRecursion}
use Rattle.std.specs.Option.{option_map_or}
use Rattle.std.proofs.lemmas.Bool.{eqb-true}
use Rattle.std.proofs.lemmas.List.{length-map}
use Rattle.std.proofs.lemmas.List.Elements.{All-contains, Contains-append_right}
use Rattle.rn_value.specs.declared.value.InstRef.{InstRef}
use Rattle.rn_value.specs.declared.value.Value.{Value}
use Rattle.rn_value.specs.declared.value.Value.TheVariants as Value
use Rattle.rn_model.specs.declared.expr.Expr.{Expr}
use Rattle.rn_model.specs.declared.system.System.{System}
use Rattle.rn_model.specs.declared.system.Transition.{Transition}
use Rattle.rn_model.specs.declared.system.ArcKind.{ArcKind}
use Rattle.rn_model.specs.declared.system.ArcKind.TheVariants.{Input, Output, Test, Reserve}
use Rattle.rn_model.specs.declared.system.ArcKind.TheVariants.{FlexInput, FlexOutput, Inhibit}
use Rattle.rn_model.specs.declared.system.ArcKind.TheVariants.{Clear}
use Rattle.rn_model.specs.declared.system.NetArc.{NetArc}
use Rattle.rn_model.specs.declared.binding.Node.{Node}
use Rattle.rn_model.specs.Systems.{net_at, transition_of, holds_action_var, is_out, is_output}
use Rattle.rn_model.specs.Systems.{puts_awaited, capacity_in}
use Rattle.rn_model.specs.Kinds.{holds_step}
use Rattle.rn_model.specs.Evaluation.{Env, worth, list_of}
use Rattle.rn_model.specs.Bindings.{env_of}
use Rattle.rn_model.specs.Demands.{elements, puts, asked_by_arc}
use Rattle.rn_model.specs.Firing.{Acts, node_acts, renamed_value, renamed_node}
use Rattle.rn_model.specs.ExpressionLaws.{renamed_env}
use Rattle.rn_model.specs.Good.{IsGoodTransition, UsesActions, IsCounted, searched_exprs}
use Rattle.rn_model.specs.Good.{output_exprs}
use Rattle.rn_model.proofs.AskedValues.{contained_mapped}
use Rattle.rn_model.proofs.ReadAfterActions.{worth_after}
use Rattle.rn_model.proofs.ReadConditions.{each_in}
use Rattle.rn_model.proofs.RenamedReadings.{worth-renamed}
use Rattle.rn_model.proofs.ReplacedValues.{replaced, IsPlain, list_of-replaced}
use Rattle.rn_model.proofs.ReplacedValues.{renamed_is_replaced}
use Rattle.rn_model.proofs.ValueLists.{one_if}
use Rattle.rn_items.proofs.Lists.{in_filter}

abbrev inscription : NetArc → Expr
inscription arc = arc.inscription

-- no arc holds a step, and one that is no output holds no action variable
unheld : (t : Transition) (arc : NetArc) → UsesActions t → Contains t.arcs arc →
    is_output arc.kind ≡ false →
    (holds_action_var t arc.inscription ≡ false) × (holds_step arc.inscription ≡ false)
unheld t arc uses there e =
    let other : not (is_output arc.kind) ≡ true = ap not e in
    All-contains (λ e. (holds_action_var t e ≡ false) × (holds_step e ≡ false)) (searched_exprs t)
    arc.inscription uses.searched
    (Contains-append_right _ (map inscription (filter (λ arc. not (is_output arc.kind)) t.arcs))
    arc.inscription
    (contained_mapped inscription (filter (λ arc. not (is_output arc.kind)) t.arcs) arc
    (in_filter (λ arc. not (is_output arc.kind)) t.arcs arc there other)))

unstepped : (t : Transition) (arc : NetArc) → UsesActions t → Contains t.arcs arc →
    (puts_value : Bool) → is_output arc.kind ≡ puts_value → holds_step arc.inscription ≡ false
unstepped t arc uses there false e = (unheld t arc uses there e).1
unstepped t arc uses there true e =
    All-contains (λ e. holds_step e ≡ false) (output_exprs t) arc.inscription uses.outputs
    (contained_mapped inscription (filter (λ arc. is_output arc.kind) t.arcs) arc
    (in_filter (λ arc. is_output arc.kind) t.arcs arc there e))

module _ (name : InstRef → InstRef) where
  abbrev rename : Value → Value
  rename v = renamed_value v name

  abbrev put : InstRef → Value
  put i = Value.Inst (name i)

  plain : IsPlain put
  plain = record {
    ints = λ i. rw (Value.outs-Inst (name i));
    lists = λ i. rw (Value.outs-Inst (name i));
  }

  -- a list with its instances renamed has as many elements
  many_elements : (v : Value) → length (elements (rename v)) ≡ length (elements v)
  many_elements v =
      ap (λ w. length (elements w)) (renamed_is_replaced name v)
      ∙ ap (λ o. length (unwrap_or o [])) (list_of-replaced put plain v) ∙ mapped (list_of v)
    where
      mapped : (o : Option (List Value)) →
          length (unwrap_or (option_map (map (replaced put)) o) []) ≡ length (unwrap_or o [])
      mapped None = refl
      mapped (Some vs) = length-map vs (replaced put)

  many_puts : (kind : ArcKind) (v : Value) → length (puts kind (rename v)) ≡ length (puts kind v)
  many_puts Output v = refl
  many_puts Reserve v = refl
  many_puts FlexOutput v = many_elements v
  many_puts Input v = refl
  many_puts Test v = refl
  many_puts FlexInput v = refl
  many_puts Inhibit v = refl
  many_puts Clear v = refl

  -- so an arc whose value is renamed puts as many
  pub many_put : (kind : ArcKind) (o : Option Value) →
      length (option_map_or (puts kind) (option_map rename o) [])
      ≡ length (option_map_or (puts kind) o [])
  many_put kind None = refl
  many_put kind (Some v) = many_puts kind v

  pairs_named : (xs : List ℕ) (vs : List Value) →
      zip xs (map rename vs) ≡ map (λ p. (p.0, renamed_value p.1 name)) (zip xs vs)
  pairs_named [] vs = refl
  pairs_named (x ∷ xs) [] = refl
  pairs_named (x ∷ xs) (v ∷ vs) = ap (λ ps. (x, rename v) ∷ ps) (pairs_named xs vs)

  -- what a node is read under is renamed with it
  env_named : (system : System) (node : Node) →
      env_of system (renamed_node name node) ≡ renamed_env name (env_of system node)
  env_named system node =
      ap (λ ps. record { this = name node.inst; step = None; pairs = ps })
      (pairs_named (transition_of system node).vars node.values)

none_put : (o : Option Value) → length (option_map_or (puts Input) o []) ≡ 0
none_put None = refl
none_put (Some v) = refl

one_put : (o : Option Value) → length (option_map_or (puts Output) o []) ≤ 1
one_put None = omega arith
one_put (Some v) = omega arith

-- An arc puts no more after the actions than before, or is one that is counted.
arc_puts : (kind : ArcKind) (held : Bool) (after before : Option Value) →
    (held ≡ false → length (option_map_or (puts kind) after [])
    ≡ length (option_map_or (puts kind) before [])) →
    (is_output kind ≡ false → held ≡ false) → (kind ≡ FlexOutput → held ≡ false) →
    length (option_map_or (puts kind) after [])
    ≤ length (option_map_or (puts kind) before []) + one_if (is_out kind && held)
arc_puts Output true after before same searched flex = let one = one_put after in omega (arith, one)
arc_puts Output false after before same searched flex = let e = same refl in omega (arith, e)
arc_puts Reserve held after before same searched flex =
    let e = same (searched refl) in omega (arith, e)
arc_puts FlexOutput held after before same searched flex =
    let e = same (flex refl) in omega (arith, e)
arc_puts Input held after before same searched flex = let e = none_put after in omega (arith, e)
arc_puts Test held after before same searched flex = let e = none_put after in omega (arith, e)
arc_puts FlexInput held after before same searched flex = let e = none_put after in omega (arith, e)
arc_puts Inhibit held after before same searched flex = let e = none_put after in omega (arith, e)
arc_puts Clear held after before same searched flex = let e = none_put after in omega (arith, e)

if_here : (here counts : Bool) (xs ys : List Value) →
    (here ≡ true → length xs ≤ length ys + one_if counts) →
    length (if here then xs else []) ≤ length (if here then ys else []) + one_if (here && counts)
if_here true counts xs ys bound = bound refl
if_here false counts xs ys bound = omega arith

filtered : {X : Type 0} (test : X → Bool) (x : X) (xs : List X) →
    length (filter test (x ∷ xs)) ≡ one_if (test x) + length (filter test xs)
filtered test x xs = by (test x)
  where
    by : (keeps : Bool) → length (if keeps then x ∷ filter test xs else filter test xs)
        ≡ one_if keeps + length (filter test xs)
    by true = omega arith
    by false = omega arith

-- joined lists, where each is no longer than another and one more where it is counted
joined_bound : {X : Type 0} (f g : X → List Value) (test : X → Bool) (xs : List X) →
    AllByRecursion (λ x. length (f x) ≤ length (g x) + one_if (test x)) xs →
    length (flat_map f xs) ≤ length (flat_map g xs) + length (filter test xs)
joined_bound f g test [] all = omega arith
joined_bound f g test (x ∷ xs) all =
    let first = all.0 in
    let rest = joined_bound f g test xs all.1 in
    let left = length-append (f x) (flat_map f xs) in
    let right = length-append (g x) (flat_map g xs) in
    let counted = filtered test x xs in
    omega (arith, first, rest, left, right, counted)

-- A node of a good transition, under new names, after its actions.
module _ (system : System) (step : ℕ) (name : InstRef → InstRef) (node : Node) (acts : Acts)
    (good : IsGoodTransition system (net_at system node.net) (transition_of system node))
    (are : node_acts system step (renamed_node name node) ≡ Some acts) (place most : ℕ)
    (has : capacity_in (net_at system node.net) place ≡ Some most) where
  abbrev t : Transition
  t = transition_of system node

  abbrev before : Env
  before = env_of system node

  worth_named : (e : Expr) → holds_action_var t e ≡ false → holds_step e ≡ false →
      worth e acts.env ≡ option_map (λ v. renamed_value v name) (worth e before)
  worth_named e none steps =
      worth_after system step (renamed_node name node) good.its_vars acts are e none steps
      ∙ ap (worth e) (env_named name system node) ∙ worth-renamed name e before

  abbrev IsBound : NetArc → Type 0
  IsBound arc =
      length (asked_by_arc puts acts.env place arc)
      ≤ length (asked_by_arc puts before place arc)
      + one_if (nat_eq arc.place place && puts_awaited t arc)

  -- a `flexout` arc to a place with a capacity awaits no action
  flex_unheld : (arc : NetArc) (held : Bool) → Contains t.arcs arc → arc.place ≡ place →
      arc.kind ≡ FlexOutput → holds_action_var t arc.inscription ≡ held → held ≡ false
  flex_unheld arc false there at kind e = refl
  flex_unheld arc true there at kind e =
      let counted = All-contains (IsCounted (net_at system node.net) t) t.arcs arc good.counted
      there kind e in
      let both : None ≡ Some most =
      sym counted ∙ ap (capacity_in (net_at system node.net)) at ∙ has in
      absurd (let no : ⊥ = cc in no)

  arc_bound : (arc : NetArc) → Contains t.arcs arc → IsBound arc
  arc_bound arc there =
      let after_value = worth arc.inscription acts.env in
      let before_value = worth arc.inscription before in
      let held = holds_action_var t arc.inscription in
      let steps = unstepped t arc good.uses there (is_output arc.kind) refl in
      if_here (nat_eq arc.place place) (puts_awaited t arc)
      (option_map_or (puts arc.kind) after_value []) (option_map_or (puts arc.kind) before_value [])
      (λ here. arc_puts arc.kind held after_value before_value
      (λ none.
      ap (λ o. length (option_map_or (puts arc.kind) o [])) (worth_named arc.inscription none steps)
      ∙ many_put name arc.kind before_value)
      (λ other. (unheld t arc good.uses there other).0)
      (λ flex. flex_unheld arc held there (eqb-true arc.place place here) flex refl))

  -- the arcs of the node put no more after its actions than they put before and are counted
  pub arcs_bound :
      length (flat_map (asked_by_arc puts acts.env place) t.arcs)
      ≤ length (flat_map (asked_by_arc puts before place) t.arcs)
      + length (filter (λ arc. nat_eq arc.place place && puts_awaited t arc) t.arcs)
  arcs_bound =
      joined_bound (asked_by_arc puts acts.env place) (asked_by_arc puts before place)
      (λ arc. nat_eq arc.place place && puts_awaited t arc) t.arcs
      (each_in IsBound t.arcs arc_bound)
