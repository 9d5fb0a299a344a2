-- A weighted net and the system that stands for it have the same runs.
use Rattle.std.proofs.Common.{◌≡◌, ℕ, zero, suc, ◌<◌, ◌≤◌, List, [], ◌∷◌, map, length, refl, sym, ap, ◌∙◌, subst, arith}
use Rattle.std.specs.Prelude.{Some, Result, Ok, Err, All, slice_get, unwrap_or}
use Rattle.std.proofs.lemmas.List.{length-map}
use Rattle.std.proofs.lemmas.List.Elements.{All-nil, All-cons, All-head, All-get_or}
use Rattle.std.proofs.lemmas.Option.{same_Some, slice_get-get_or, unwrap_or-slice_get}
use Rattle.rn_value.specs.declared.value.InstRef.{InstRef}
use Rattle.rn_value.specs.declared.value.InstRef.TheVariants.{Old}
use Rattle.rn_value.specs.declared.value.Value.{Value}
use Rattle.rn_model.specs.declared.system.System.{System}
use Rattle.rn_model.specs.declared.binding.Binding.{Binding}
use Rattle.rn_model.specs.declared.binding.Node.{Node}
use Rattle.rn_model.specs.declared.log.FaultKind.{FaultKind}
use Rattle.rn_model.specs.Lists.{ordered_values}
use Rattle.rn_model.specs.Systems.{net_at, transition_at, empty_transition}
use Rattle.rn_model.specs.Bindings.{IsNodeOf}
use Rattle.rn_model.specs.Markings.{initial_marking, net_of, tokens_at}
use Rattle.rn_model.specs.Firing.{Fired, fire}
use Rattle.rn_model.specs.Enabling.{Enabled}
use Rattle.rn_model.specs.Limits.{most_workers}
use Rattle.rn_model.specs.Runs.{Firing, Fires, RunFrom, after_firing, marking_or, end_from}
use Rattle.rn_model.proofs.SingleNodes.{single_node}
use Rattle.rn_weighted.specs.declared.weighted.Weighted.{Weighted}
use Rattle.rn_weighted.specs.declared.weighted.WPlace.{WPlace}
use Rattle.rn_weighted.specs.declared.weighted.WTransition.{WTransition}
use Rattle.rn_weighted.specs.Weighted.{IsWeighted, IsWArc, IsWTransition}
use Rattle.rn_translated.specs.WeightedRuns.{WEnabled, WRunFrom, w_after, w_end_from, w_initial, w_transition, WEnd}
use Rattle.rn_translated.specs.TranslatedSystem.{blacks, net_place, net_transition, translated_system, occurrence, firing_of, marking_of}
use Rattle.rn_translated.specs.RunLaws.{RunsCorrespond, EndsCorrespond, OneInstanceAlone, IsOccurrence, RunsHaveOccurrences, EachRunIsWeighted}
use Rattle.rn_translated.proofs.BlackTokens.{ordered_blacks, held}
use Rattle.rn_translated.proofs.MarksOfEnds.{its_net}
use Rattle.rn_translated.proofs.OneOccurrence.{no_downlinks}
use Rattle.rn_translated.proofs.OccurrencesFit.{occurs, may_occur}
use Rattle.rn_translated.proofs.OccurrencesFire.{fires}

-- no transition of the system has variables
no_vars_at : (ts : List WTransition) (t : ℕ) →
    (unwrap_or (slice_get (map net_transition ts) t) empty_transition).vars ≡ []
no_vars_at [] t = refl
no_vars_at (wt ∷ ts) zero = refl
no_vars_at (wt ∷ ts) (suc t) = no_vars_at ts t

-- the start
first_places : (ps : List WPlace) →
    map (λ p. ordered_values p.initial) (map net_place ps)
    ≡ map blacks (map (λ place. place.initial) ps)
first_places [] = refl
first_places (place ∷ ps) =
    ap (λ vs. vs ∷ map (λ p. ordered_values p.initial) (map net_place ps))
    (ordered_blacks place.initial)
    ∙ ap (λ others. blacks place.initial ∷ others) (first_places ps)

pub begins : (net : Weighted) →
    initial_marking (translated_system net) ≡ marking_of (w_initial net)
begins net =
    ap
    (λ places. record {
      next = 2;
      instances = record { number = 1; net = 0; places = places } ∷ [];
    })
    (first_places net.places)

-- which transition a binding's node is of
abbrev number_of : List Node → ℕ
number_of [] = 0
number_of (n ∷ nodes) = n.transition

numbers_of : (ts : List ℕ) → map (λ b. number_of b.nodes) (map occurrence ts) ≡ ts
numbers_of [] = refl
numbers_of (t ∷ ts) = ap (λ others. t ∷ others) (numbers_of ts)

bindings_of : (ts : List ℕ) → map (λ f. f.binding) (map firing_of ts) ≡ map occurrence ts
bindings_of [] = refl
bindings_of (t ∷ ts) = ap (λ others. occurrence t ∷ others) (bindings_of ts)

abbrev outs_of : Result Fired FaultKind → List Value
outs_of (Ok f) = f.outs
outs_of (Err cause) = []

module _ (net : Weighted) (good : IsWeighted net) where
  abbrev system : System
  system = translated_system net

  abbrev no_transition : WTransition
  no_transition = record { name = []; arcs = [] }

  pub there : (t : ℕ) → t < length net.transitions →
      slice_get net.transitions t ≡ Some (w_transition net t)
  there t within =
      slice_get-get_or net.transitions t no_transition within
      ∙ ap Some (sym (unwrap_or-slice_get net.transitions t no_transition))

  pub its_arcs : (t : ℕ) → t < length net.transitions →
      All (IsWArc (length net.places)) (w_transition net t).arcs
  its_arcs t within =
      let is = All-get_or (IsWTransition (length net.places)) net.transitions t no_transition within
      good.transitions in
      subst (λ wt. All (IsWArc (length net.places)) wt.arcs)
      (sym (unwrap_or-slice_get net.transitions t no_transition)) is.arcs

  module _ (t : ℕ) (within : t < length net.transitions) (step : ℕ) (m : List ℕ) where
    abbrev pub then_m : List ℕ
    then_m = w_after (w_transition net t) m

    pub fires_so : fire system (marking_of m) (occurrence t) step
        ≡ Ok (record { marking = marking_of then_m; outs = [] })
    fires_so = fires net t (w_transition net t) (there t within) (its_arcs t within) step m

    pub led : after_firing system step (marking_of m) (firing_of t) ≡ marking_of then_m
    led = ap (λ r. marking_or r (marking_of m)) fires_so

    pub one_fires : (depth worker : ℕ) → (1 ≤ worker) × (worker ≤ most_workers) →
        WEnabled (w_transition net t) m →
        Fires system depth step (marking_of m)
        (record { worker = worker; binding = occurrence t; outs = [] })
    one_fires depth worker can enabled = record {
      enabled =
          occurs net t (w_transition net t) (there t within) (its_arcs t within) m depth enabled;
      fired = fires_so ∙ ap (λ after. Ok (record { marking = after; outs = [] })) (sym led);
      worker = can;
    }

  all_fire : (depth step : ℕ) (m ts : List ℕ) → WRunFrom net m ts →
      RunFrom system depth step (marking_of m) (map firing_of ts)
  all_fire depth step m [] run = tt
  all_fire depth step m (t ∷ ts) run = (
    one_fires t run.0 step m depth 1 (omega arith, omega arith) run.1,
    subst (λ x. RunFrom system depth (suc step) x (map firing_of ts)) (sym (led t run.0 step m))
        (all_fire depth (suc step) (w_after (w_transition net t) m) ts run.2),
  )

  ends_so : (step : ℕ) (m ts : List ℕ) → WRunFrom net m ts →
      end_from system step (marking_of m) (map firing_of ts) ≡ marking_of (w_end_from net m ts)
  ends_so step m [] run = refl
  ends_so step m (t ∷ ts) run =
      ap (λ x. end_from system (suc step) x (map firing_of ts)) (led t run.0 step m)
      ∙ ends_so (suc step) (w_after (w_transition net t) m) ts run.2

  -- an enabled binding is an occurrence
  abbrev one_of : List ℕ → InstRef → ℕ → ℕ → List Value → Binding
  one_of path inst n t values =
      record {
        nodes =
            record { path = path; inst = inst; net = n; transition = t; values = values } ∷ [];
      }

  abbrev pub IsOne : Binding → Type 0
  IsOne b = (t : ℕ) × (t < length net.transitions) × (b ≡ occurrence t)

  no_values : (values : List Value) → length values ≡ 0 → values ≡ []
  no_values [] e = refl
  no_values (v ∷ vs) e = let never : ⊥ = omega (arith, e) in absurd never

  one_at : (depth : ℕ) (m : List ℕ) (inst : InstRef) (n t : ℕ) (values : List Value) (k : ℕ) →
      inst ≡ Old k → Enabled system (marking_of m) (one_of [] inst n t values) depth →
      IsOne (one_of [] inst n t values)
  one_at depth m inst n t values k old e =
      let node : Node =
      record { path = []; inst = inst; net = n; transition = t; values = values } in
      let of_net = its_net m k n
      (All-head (λ x. (j : ℕ) → x.inst ≡ Old j → net_of (marking_of m) j ≡ Some x.net) node []
      e.fits.there k old) in
      let is = All-head (IsNodeOf system) node [] e.shape.nodes in
      let within : t < length (net_at system 0).transitions =
      subst (λ j. t < length (net_at system j).transitions) (sym of_net.1) is.transition in
      let many = length-map net.transitions net_transition in
      let none : length values ≡ 0 =
      is.values ∙ ap (λ j. length (transition_at system j t).vars) (sym of_net.1)
      ∙ ap length (no_vars_at net.transitions t) in (
        t,
        omega (arith, within, many),
        ap (λ i. one_of [] i n t values) (old ∙ ap Old (sym of_net.0))
            ∙ ap (λ j. one_of [] (Old 1) j t values) (sym of_net.1)
            ∙ ap (λ vs. one_of [] (Old 1) 0 t vs) (no_values values none),
      )

  on_path : (depth : ℕ) (m path : List ℕ) (inst : InstRef) (n t : ℕ) (values : List Value) →
      path ≡ [] → Enabled system (marking_of m) (one_of path inst n t values) depth →
      IsOne (one_of path inst n t values)
  on_path depth m (i ∷ path) inst n t values empty e =
      let never : ⊥ = cc in
      absurd never
  on_path depth m [] inst n t values empty e =
      let node : Node =
      record { path = []; inst = inst; net = n; transition = t; values = values } in
      let same : node ≡ e.shape.start.0 = same_Some node e.shape.start.0 e.shape.start.1 in
      let old = e.shape.start.2.exists in
      one_at depth m inst n t values old.0 (ap (λ x. x.inst) same ∙ old.1) e

  pub is_one : (depth : ℕ) (m : List ℕ) (b : Binding) → Enabled system (marking_of m) b depth → IsOne b
  is_one depth m b e =
      let single = single_node system b depth e.shape
      (λ n there. no_downlinks net n.net n.transition) in
      let n = single.0 in
      let one = on_path depth m n.path n.inst n.net n.transition n.values single.2
      (subst (λ x. Enabled system (marking_of m) x depth) single.1 e) in
      (one.0, one.1, single.1 ∙ one.2)

  -- what is known of a firing
  pub record OneFired (depth step : ℕ) (m : List ℕ) (f : Firing) : Type 0 where
    pub t : ℕ
    pub within : t < length net.transitions
    pub is : f.binding ≡ occurrence t
    pub enabled : WEnabled (w_transition net t) m
    pub silent : f.outs ≡ []
    pub led_to : after_firing system step (marking_of m) f
        ≡ marking_of (w_after (w_transition net t) m)

  pub one_fired : (depth step : ℕ) (m : List ℕ) (f : Firing) →
      Fires system depth step (marking_of m) f → OneFired depth step m f
  one_fired depth step m f fired =
      let one = is_one depth m f.binding fired.enabled in
      let t = one.0 in
      let same = ap (λ b. fire system (marking_of m) b step) one.2 ∙ fires_so t one.1 step m in
      let at_it = subst (λ b. Enabled system (marking_of m) b depth) one.2 fired.enabled in
      record {
        t = t;
        within = one.1;
        is = one.2;
        enabled =
            may_occur net t (w_transition net t) (there t one.1) (its_arcs t one.1) m at_it.fits;
        silent = ap outs_of (sym fired.fired ∙ same);
        led_to = ap (λ r. marking_or r (marking_of m)) same;
      }

  abbrev IsWeightedRun : ℕ → List ℕ → List Firing → Type 0
  IsWeightedRun step m fs =
      (ts : List ℕ) × (map (λ f. f.binding) fs ≡ map occurrence ts) × WRunFrom net m ts
      × (end_from system step (marking_of m) fs ≡ marking_of (w_end_from net m ts))

  all_fired : (depth step : ℕ) (m : List ℕ) (fs : List Firing) →
      RunFrom system depth step (marking_of m) fs → IsWeightedRun step m fs
  all_fired depth step m [] run = ([], refl, tt, refl)
  all_fired depth step m (f ∷ fs) run =
      let first = one_fired depth step m f run.0 in
      let then_m = w_after (w_transition net first.t) m in
      let rest = all_fired depth (suc step) then_m fs
      (subst (λ x. RunFrom system depth (suc step) x fs) first.led_to run.1) in (
        first.t ∷ rest.0,
        ap (λ b. b ∷ map (λ f. f.binding) fs) first.is
            ∙ ap (λ others. occurrence first.t ∷ others) rest.1,
        (first.within, first.enabled, rest.2),
        ap (λ x. end_from system (suc step) x fs) first.led_to ∙ rest.3,
      )

  all_occur : (depth step : ℕ) (m : List ℕ) (fs : List Firing) →
      RunFrom system depth step (marking_of m) fs → All (IsOccurrence net) fs
  all_occur depth step m [] run = All-nil (IsOccurrence net)
  all_occur depth step m (f ∷ fs) run =
      let first = one_fired depth step m f run.0 in
      All-cons (IsOccurrence net) f fs (first.t, first.within, first.is, first.silent)
      (all_occur depth (suc step) (w_after (w_transition net first.t) m) fs
      (subst (λ x. RunFrom system depth (suc step) x fs) first.led_to run.1))

  from_start : (depth : ℕ) (fs : List Firing) →
      RunFrom system depth 1 (initial_marking system) fs →
      RunFrom system depth 1 (marking_of (w_initial net)) fs
  from_start depth fs run = subst (λ x. RunFrom system depth 1 x fs) (begins net) run

pub one_instance_alone : OneInstanceAlone
one_instance_alone net ts good run =
    ap (λ x. end_from (translated_system net) 1 x (map firing_of ts)) (begins net)
    ∙ ends_so net good 1 (w_initial net) ts run

pub ends_correspond : EndsCorrespond
ends_correspond net ts good run place =
    ap (λ x. tokens_at x 1 place) (one_instance_alone net ts good run) ∙ held (WEnd net ts) place

pub runs_have_occurrences : RunsHaveOccurrences
runs_have_occurrences net depth fs good run =
    all_occur net good depth 1 (w_initial net) fs (from_start net good depth fs run)

pub each_run_is_weighted : EachRunIsWeighted
each_run_is_weighted net depth fs good run =
    let is = all_fired net good depth 1 (w_initial net) fs (from_start net good depth fs run) in (
      is.0,
      is.1,
      is.2,
      ap (λ x. end_from (translated_system net) 1 x fs) (begins net) ∙ is.3,
    )

pub runs_correspond : RunsCorrespond
runs_correspond net depth ts good = (
  λ run. subst (λ x. RunFrom (translated_system net) depth 1 x (map firing_of ts)) (sym (begins net))
      (all_fire net good depth 1 (w_initial net) ts run),
  λ run.
      let is = each_run_is_weighted net depth (map firing_of ts) good run in
      let same : map occurrence ts ≡ map occurrence is.0 = sym (bindings_of ts) ∙ is.1 in
      let numbers : is.0 ≡ ts =
      sym (numbers_of is.0) ∙ ap (map (λ b. number_of b.nodes)) (sym same) ∙ numbers_of ts in
      subst (λ us. WRunFrom net (w_initial net) us) numbers is.2,
)
