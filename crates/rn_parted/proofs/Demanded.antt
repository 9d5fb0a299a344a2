-- What a binding that starts in an instance asks of a place there that parts such bindings: one
-- token at most.
use Rattle.std.proofs.Common.{◌≡◌, ℕ, zero, suc, ◌⊎◌, Bool, true, false, ◌&&◌, not, List, [], ◌∷◌}
use Rattle.std.proofs.Common.{◌++◌, map, refl, sym, ap, ◌∙◌, subst, inl, inr, arith}
use Rattle.std.specs.Prelude.{◌≢◌, Option, Some, None, Contains, IsTrue, filter, find, flat_map}
use Rattle.std.specs.Prelude.{is_none, nat_eq, slice_get, unwrap_or, if◌then◌else◌}
use Rattle.std.specs.List.{list_all}
use Rattle.std.specs.Option.{option_map_or}
use Rattle.std.specs.Ordering.{is_eq, nat_cmp}
use Rattle.std.specs.Cmp.{Equal-is}
use Rattle.std.specs.Cmp.Lexicographic.{pointwise, slice_cmp}
use Rattle.std.specs.declared.cmp.Ordering.TheVariants.{Less}
use Rattle.std.proofs.lemmas.List.{append-nil}
use Rattle.std.proofs.lemmas.List.Elements.{All-contains}
use Rattle.std.proofs.lemmas.Option.{same_Some}
use Rattle.rn_items.proofs.Bools.{both_true}
use Rattle.rn_items.proofs.Numbers.{same_numbers}
use Rattle.rn_value.specs.Order.{inst_cmp}
use Rattle.rn_value.specs.link.OrderLaws.{insts_apart}
use Rattle.rn_value.specs.declared.value.InstRef.TheVariants.{Old}
use Rattle.rn_value.specs.declared.value.Value.{Value}
use Rattle.rn_model.specs.declared.system.System.{System}
use Rattle.rn_model.specs.declared.system.ArcKind.{ArcKind}
use Rattle.rn_model.specs.declared.system.ArcKind.TheVariants.{Input, Output, Test, Reserve}
use Rattle.rn_model.specs.declared.system.ArcKind.TheVariants.{FlexInput, FlexOutput, Inhibit}
use Rattle.rn_model.specs.declared.system.ArcKind.TheVariants.{Clear}
use Rattle.rn_model.specs.declared.system.NetArc.{NetArc}
use Rattle.rn_model.specs.declared.system.Transition.{Transition}
use Rattle.rn_model.specs.declared.binding.Node.{Node}
use Rattle.rn_model.specs.declared.binding.Binding.{Binding}
use Rattle.rn_model.specs.Lists.{ordered_values}
use Rattle.rn_model.specs.Systems.{net_at, capacity, transition_of, empty_transition, is_output}
use Rattle.rn_model.specs.Evaluation.{Env, worth}
use Rattle.rn_model.specs.Bindings.{Shape, IsCalled, env_of, node_at}
use Rattle.rn_model.specs.Demands.{Reading, readings, takes, tests, inhibits, clears, asked_by_arc}
use Rattle.rn_model.specs.Demands.{asked_by_node, asked_at, taken_at, tested_at, inhibited_at}
use Rattle.rn_model.specs.Demands.{cleared_at}
use Rattle.rn_model.proofs.NodesByPath.{Ascending, below_others, node_at-path}
use Rattle.rn_model.proofs.AskedValues.{later, inst_itself}
use Rattle.rn_reach.specs.Reach.{StartsIn}
use Rattle.rn_parted.specs.Parting.{asks_one, askers_at, ask_at_most_one, parts}

-- Of the arcs of a place those that only put ask nothing.
module _ {A : Type 0} (pick : ArcKind → Value → List A)
    (puts_only : (kind : ArcKind) (v : Value) → is_output kind ≡ true → pick kind v ≡ [])
    (env : Env) (place : ℕ) where
  abbrev asks : NetArc → Bool
  asks x = nat_eq x.place place && not (is_output x.kind)

  abbrev asked : NetArc → List A
  asked = asked_by_arc pick env place

  picks_none : (kind : ArcKind) (o : Option Value) → is_output kind ≡ true →
      option_map_or (pick kind) o [] ≡ []
  picks_none kind None e = refl
  picks_none kind (Some v) e = puts_only kind v e

  none_if : (here output : Bool) (xs : List A) → here && not output ≡ false →
      (output ≡ true → xs ≡ []) → (if here then xs else []) ≡ []
  none_if true true xs e none = none refl
  none_if true false xs e none = absurd (let no : ⊥ = cc in no)
  none_if false output xs e none = refl

  asks_none : (x : NetArc) → asks x ≡ false → asked x ≡ []
  asks_none x e =
      none_if (nat_eq x.place place) (is_output x.kind)
      (option_map_or (pick x.kind) (worth x.inscription env) []) e
      (picks_none x.kind (worth x.inscription env))

  kept_by : (x : NetArc) (xs rest : List NetArc) (does : Bool) → asks x ≡ does →
      flat_map asked xs ≡ flat_map asked rest →
      asked x ++ flat_map asked xs ≡ flat_map asked (if does then x ∷ rest else rest)
  kept_by x xs rest true e same = ap (λ ys. asked x ++ ys) same
  kept_by x xs rest false e same = ap (λ ys. ys ++ flat_map asked xs) (asks_none x e) ∙ same

  by_askers : (arcs : List NetArc) → flat_map asked arcs ≡ flat_map asked (filter asks arcs)
  by_askers [] = refl
  by_askers (x ∷ xs) = kept_by x xs (filter asks xs) (asks x) refl (by_askers xs)

  pub asked_by_askers : (t : Transition) →
      flat_map asked t.arcs ≡ flat_map asked (askers_at t place)
  asked_by_askers t = by_askers t.arcs

takes_none : (kind : ArcKind) (v : Value) → is_output kind ≡ true → takes kind v ≡ []
takes_none Input v e = absurd (let no : ⊥ = cc in no)
takes_none Output v e = refl
takes_none Test v e = refl
takes_none Reserve v e = absurd (let no : ⊥ = cc in no)
takes_none FlexInput v e = absurd (let no : ⊥ = cc in no)
takes_none FlexOutput v e = refl
takes_none Inhibit v e = refl
takes_none Clear v e = refl

tests_none : (kind : ArcKind) (v : Value) → is_output kind ≡ true → tests kind v ≡ []
tests_none Input v e = refl
tests_none Output v e = refl
tests_none Test v e = absurd (let no : ⊥ = cc in no)
tests_none Reserve v e = refl
tests_none FlexInput v e = refl
tests_none FlexOutput v e = refl
tests_none Inhibit v e = refl
tests_none Clear v e = refl

inhibits_none : (kind : ArcKind) (v : Value) → is_output kind ≡ true → inhibits kind v ≡ []
inhibits_none Input v e = refl
inhibits_none Output v e = refl
inhibits_none Test v e = refl
inhibits_none Reserve v e = refl
inhibits_none FlexInput v e = refl
inhibits_none FlexOutput v e = refl
inhibits_none Inhibit v e = absurd (let no : ⊥ = cc in no)
inhibits_none Clear v e = refl

clears_none : (kind : ArcKind) (v : Value) → is_output kind ≡ true → clears kind v ≡ []
clears_none Input v e = refl
clears_none Output v e = refl
clears_none Test v e = refl
clears_none Reserve v e = refl
clears_none FlexInput v e = refl
clears_none FlexOutput v e = refl
clears_none Inhibit v e = refl
clears_none Clear v e = absurd (let no : ⊥ = cc in no)

-- Of a transition of which a place is asked for at most one.
no_asker : (t : Transition) (xs : List NetArc) → ask_at_most_one t xs ≡ true →
    is_none t.uplink ≡ false → xs ≡ []
no_asker t [] e uplink = refl
no_asker t (x ∷ []) e uplink =
    let start = (both_true (is_none t.uplink) (asks_one x.kind) e).0 in
    absurd (let no : ⊥ = cc in no)
no_asker t (x ∷ y ∷ xs) e uplink = absurd (let no : ⊥ = cc in no)

one_asker : (t : Transition) (xs : List NetArc) → ask_at_most_one t xs ≡ true →
    (xs ≡ []) ⊎ ((x : NetArc) × (xs ≡ x ∷ []) × (asks_one x.kind ≡ true))
one_asker t [] e = inl refl
one_asker t (x ∷ []) e = inr (x, refl, (both_true (is_none t.uplink) (asks_one x.kind) e).1)
one_asker t (x ∷ y ∷ xs) e = absurd (let no : ⊥ = cc in no)

-- what each of these has, the one of a number has, or what stands for one that isn't there
got_all : {X : Type 0} (test : X → Bool) (xs : List X) (k : ℕ) (d : X) → list_all test xs ≡ true →
    test d ≡ true → test (unwrap_or (slice_get xs k) d) ≡ true
got_all test [] k d all e = e
got_all test (x ∷ xs) zero d all e = (both_true (test x) (list_all test xs) all).0
got_all test (x ∷ xs) (suc k) d all e =
    got_all test xs k d (both_true (test x) (list_all test xs) all).1 e

-- The start comes first.
passes_by : {X : Type 0} (test : X → Bool) (y : X) (xs : List X) (x : X) (does : Bool) →
    test y ≡ does → (if does then Some y else find test xs) ≡ Some x →
    (find test xs ≡ Some x → Contains xs x × (test x ≡ true)) →
    Contains (y ∷ xs) x × (test x ≡ true)
passes_by test y xs x true does first rest =
    let same : y ≡ x = same_Some y x first in
    ((0, omega arith, same), ap test (sym same) ∙ does)
passes_by test y xs x false does found rest =
    let there = rest found in
    (later y x xs there.0, there.1)

found_passes : {X : Type 0} (test : X → Bool) (xs : List X) (x : X) → find test xs ≡ Some x →
    Contains xs x × (test x ≡ true)
found_passes test [] x e = absurd (let no : ⊥ = cc in no)
found_passes test (y ∷ xs) x e = passes_by test y xs x (test y) refl e (found_passes test xs x)

abbrev is_start : Node → Bool
is_start node = pointwise nat_eq node.path []

abbrev StartsFirst : List Node → Node → Type 0
StartsFirst nodes s = (rest : List Node) × (nodes ≡ s ∷ rest)
    × ((y : Node) → Contains rest y → y.path ≢ [])

not_below_start : (p q : List ℕ) → q ≡ [] → slice_cmp nat_cmp p q ≡ Less → ⊥
not_below_start [] q e less =
    let at_nil : slice_cmp nat_cmp [] [] ≡ Less =
    subst (λ r. slice_cmp nat_cmp [] r ≡ Less) e less in
    let no : ⊥ = cc in no
not_below_start (i ∷ p) q e less =
    let at_nil : slice_cmp nat_cmp (i ∷ p) [] ≡ Less =
    subst (λ r. slice_cmp nat_cmp (i ∷ p) r ≡ Less) e less in
    let no : ⊥ = cc in no

first_by : (x : Node) (xs : List Node) (s : Node) (does : Bool) → Ascending (x ∷ xs) →
    is_start x ≡ does → (if does then Some x else find is_start xs) ≡ Some s →
    StartsFirst (x ∷ xs) s
first_by x xs s true ascending e found =
    let same : x ≡ s = same_Some x s found in (
      xs,
      ap (λ y. y ∷ xs) same,
      λ y there path. not_below_start x.path y.path path (below_others x xs y ascending there),
    )
first_by x xs s false ascending e found =
    let there = found_passes is_start xs s found in
    absurd (not_below_start x.path s.path (same_numbers s.path [] there.1)
    (below_others x xs s ascending there.0))

starts_first : (nodes : List Node) (s : Node) → Ascending nodes → find is_start nodes ≡ Some s →
    StartsFirst nodes s
starts_first [] s ascending found = absurd (let no : ⊥ = cc in no)
starts_first (x ∷ xs) s ascending found = first_by x xs s (is_start x) ascending refl found

-- What is asked of a place of an existing instance: these are taken and those tested.
pub record Asks (system : System) (b : Binding) (n place : ℕ) (vs ws : List Value) : Type 0 where
  pub taken : taken_at system b (Old n) place ≡ vs
  pub tested : tested_at system b (Old n) place ≡ ws
  pub inhibited : inhibited_at system b (Old n) place ≡ []
  pub cleared : cleared_at system b (Old n) place ≡ []

-- it is asked for that token, which is taken or tested
abbrev pub AsksFor : System → Binding → ℕ → ℕ → Value → Type 0
AsksFor system b n place v =
    Asks system b n place (v ∷ []) [] ⊎ Asks system b n place [] (v ∷ [])

-- what one arc asks, by whether it is of the place, its kind and its inscription's value
abbrev given : {A : Type 0} → (ArcKind → Value → List A) → Bool → ArcKind → Option Value → List A
given pick here kind o = if here then option_map_or (pick kind) o [] else []

abbrev Are : Bool → ArcKind → Option Value → List Value → List Value → Type 0
Are here kind o vs ws = (given takes here kind o ≡ vs) × (given tests here kind o ≡ ws)
    × (given inhibits here kind o ≡ []) × (given clears here kind o ≡ [])

abbrev AreOne : Bool → ArcKind → Option Value → Type 0
AreOne here kind o = Are here kind o [] []
    ⊎ ((v : Value) × (Are here kind o (v ∷ []) [] ⊎ Are here kind o [] (v ∷ [])))

asks_for_one : (here : Bool) (kind : ArcKind) (o : Option Value) → asks_one kind ≡ true →
    AreOne here kind o
asks_for_one false kind o e = inl (refl, refl, refl, refl)
asks_for_one true kind None e = inl (refl, refl, refl, refl)
asks_for_one true Input (Some v) e = inr (v, inl (refl, refl, refl, refl))
asks_for_one true Output (Some v) e = absurd (let no : ⊥ = cc in no)
asks_for_one true Test (Some v) e = inr (v, inr (refl, refl, refl, refl))
asks_for_one true Reserve (Some v) e = inr (v, inl (refl, refl, refl, refl))
asks_for_one true FlexInput (Some v) e = absurd (let no : ⊥ = cc in no)
asks_for_one true FlexOutput (Some v) e = absurd (let no : ⊥ = cc in no)
asks_for_one true Inhibit (Some v) e = absurd (let no : ⊥ = cc in no)
asks_for_one true Clear (Some v) e = absurd (let no : ⊥ = cc in no)

module _ (system : System) (b : Binding) (depth n net place : ℕ) (shape : Shape system b depth)
    (nets : (node : Node) → Contains b.nodes node → node.inst ≡ Old n → node.net ≡ net)
    (parted : IsTrue (parts system net place)) (start : StartsIn b n) where
  abbrev at_most_one : Transition → Bool
  at_most_one t = ask_at_most_one t (askers_at t place)

  asks_at_most_one : (node : Node) → Contains b.nodes node → node.inst ≡ Old n →
      at_most_one (transition_of system node) ≡ true
  asks_at_most_one node there is =
      let all : list_all at_most_one (net_at system net).transitions ≡ true =
      (both_true (is_none (capacity system net place))
      (list_all at_most_one (net_at system net).transitions) parted).1 in
      got_all at_most_one (net_at system node.net).transitions node.transition empty_transition
      (subst (λ k. list_all at_most_one (net_at system k).transitions ≡ true)
      (sym (nets node there is)) all) refl

  -- a node besides the start is called, and so has an uplink
  has_uplink : (node : Node) → Contains b.nodes node → node.path ≢ [] →
      is_none (transition_of system node).uplink ≡ false
  has_uplink node there path =
      let called : IsCalled system b node =
      All-contains (λ y. y.path ≢ [] → IsCalled system b y) b.nodes node shape.called there path in
      let child =
      shape.children called.0 called.1 called.2 called.3.caller_there called.3.downlink_there in
      let same_path : child.0.path ≡ node.path = child.1.path ∙ sym called.3.path in
      let same : child.0 ≡ node =
      same_Some child.0 node
      (sym (node_at-path system b depth child.0 shape child.1.node_there)
      ∙ ap (node_at b) same_path ∙ node_at-path system b depth node shape there) in
      ap (λ y. is_none (transition_of system y).uplink) (sym same) ∙ ap is_none child.2.1

  first : StartsFirst b.nodes start.0
  first = starts_first b.nodes start.0 shape.ascending start.1

  start_there : Contains b.nodes start.0
  start_there = subst (λ nodes. Contains nodes start.0) (sym first.1) (0, omega arith, refl)

  rest_there : (y : Node) → Contains first.0 y → Contains b.nodes y
  rest_there y there =
      subst (λ nodes. Contains nodes y) (sym first.1) (later start.0 y first.0 there)

  abbrev start_askers : List NetArc
  start_askers = askers_at (transition_of system start.0) place

  abbrev start_env : Env
  start_env = env_of system start.0

  module _ {A : Type 0} (pick : ArcKind → Value → List A)
      (puts_only : (kind : ArcKind) (v : Value) → is_output kind ≡ true → pick kind v ≡ []) where
    abbrev reading : Node → Reading
    reading node = record { node = node; env = env_of system node }

    abbrev by_node : Node → List A
    by_node node = asked_by_node pick system (Old n) place (reading node)

    no_more : (y : Node) (here : Bool) → Contains first.0 y →
        is_eq (inst_cmp y.inst (Old n)) ≡ here →
        (if here then flat_map (asked_by_arc pick (env_of system y) place)
        (transition_of system y).arcs else []) ≡ []
    no_more y true there e =
        let is : y.inst ≡ Old n =
        insts_apart y.inst (Old n) ((Equal-is (inst_cmp y.inst (Old n))).0 e) in
        let t = transition_of system y in
        let own = rest_there y there in
        let none : askers_at t place ≡ [] =
        no_asker t (askers_at t place) (asks_at_most_one y own is)
        (has_uplink y own (first.2 y there)) in
        asked_by_askers pick puts_only (env_of system y) place t
        ∙ ap (flat_map (asked_by_arc pick (env_of system y) place)) none
    no_more y false there e = refl

    none_of : (ys : List Node) → ((y : Node) → Contains ys y → by_node y ≡ []) →
        flat_map (asked_by_node pick system (Old n) place) (map reading ys) ≡ []
    none_of [] none = refl
    none_of (y ∷ ys) none =
        let others = flat_map (asked_by_node pick system (Old n) place) (map reading ys) in
        ap (λ ys. ys ++ others) (none y (0, omega arith, refl))
        ∙ none_of ys (λ z there. none z (later y z ys there))

    start_asks : by_node start.0 ≡ flat_map (asked_by_arc pick start_env place) start_askers
    start_asks =
        let t = transition_of system start.0 in
        let here : is_eq (inst_cmp start.0.inst (Old n)) ≡ true =
        ap (λ i. is_eq (inst_cmp i (Old n))) start.2 ∙ inst_itself (Old n) in
        ap (λ here. if here then flat_map (asked_by_arc pick start_env place) t.arcs else []) here
        ∙ asked_by_askers pick puts_only start_env place t

    -- what is asked is what the start's arcs ask
    asked_is : asked_at pick system (readings system b) (Old n) place
        ≡ flat_map (asked_by_arc pick start_env place) start_askers
    asked_is =
        ap (λ nodes. flat_map (asked_by_node pick system (Old n) place) (map reading nodes)) first.1
        ∙ ap (λ ys. by_node start.0 ++ ys)
        (none_of first.0
        (λ y there. no_more y (is_eq (inst_cmp y.inst (Old n))) there refl))
        ∙ append-nil (by_node start.0) ∙ start_asks

    asked_none : start_askers ≡ [] →
        asked_at pick system (readings system b) (Old n) place ≡ []
    asked_none e = asked_is ∙ ap (flat_map (asked_by_arc pick start_env place)) e

    asked_one : (x : NetArc) → start_askers ≡ x ∷ [] →
        asked_at pick system (readings system b) (Old n) place
        ≡ given pick (nat_eq x.place place) x.kind (worth x.inscription start_env)
    asked_one x e =
        asked_is ∙ ap (flat_map (asked_by_arc pick start_env place)) e
        ∙ append-nil (asked_by_arc pick start_env place x)

  asks_these : (x : NetArc) (vs ws : List Value) → ordered_values vs ≡ vs →
      ordered_values ws ≡ ws → start_askers ≡ x ∷ [] →
      Are (nat_eq x.place place) x.kind (worth x.inscription start_env) vs ws →
      Asks system b n place vs ws
  asks_these x vs ws taken_stay tested_stay e are = record {
    taken = ap ordered_values (asked_one takes takes_none x e ∙ are.0) ∙ taken_stay;
    tested = ap ordered_values (asked_one tests tests_none x e ∙ are.1) ∙ tested_stay;
    inhibited = ap ordered_values (asked_one inhibits inhibits_none x e ∙ are.2);
    cleared = asked_one clears clears_none x e ∙ are.3;
  }

  asks_by_arc : (x : NetArc) → start_askers ≡ x ∷ [] →
      AreOne (nat_eq x.place place) x.kind (worth x.inscription start_env) →
      Asks system b n place [] [] ⊎ ((v : Value) × AsksFor system b n place v)
  asks_by_arc x e (inl are) = inl (asks_these x [] [] refl refl e are)
  asks_by_arc x e (inr (v, inl are)) = inr (v, inl (asks_these x (v ∷ []) [] refl refl e are))
  asks_by_arc x e (inr (v, inr are)) = inr (v, inr (asks_these x [] (v ∷ []) refl refl e are))

  asks_by : (start_askers ≡ [])
      ⊎ ((x : NetArc) × (start_askers ≡ x ∷ []) × (asks_one x.kind ≡ true)) →
      Asks system b n place [] [] ⊎ ((v : Value) × AsksFor system b n place v)
  asks_by (inl e) =
      inl (record {
        taken = ap ordered_values (asked_none takes takes_none e);
        tested = ap ordered_values (asked_none tests tests_none e);
        inhibited = ap ordered_values (asked_none inhibits inhibits_none e);
        cleared = asked_none clears clears_none e;
      })
  asks_by (inr (x, e, one)) =
      asks_by_arc x e
      (asks_for_one (nat_eq x.place place) x.kind (worth x.inscription start_env) one)

  -- the place is asked for one token at most
  pub asks_one_at_most :
      Asks system b n place [] [] ⊎ ((v : Value) × AsksFor system b n place v)
  asks_one_at_most =
      asks_by
      (one_asker (transition_of system start.0) start_askers
      (asks_at_most_one start.0 start_there start.2))
