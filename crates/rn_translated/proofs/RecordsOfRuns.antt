-- The texts of the runs of the system that stands for a weighted net are those of the net's runs.
use Rattle.std.proofs.Common.{◌≡◌, ℕ, zero, suc, ◌+◌, ◌<◌, ◌≤◌, List, [], ◌∷◌, ◌++◌, map, length, codes, refl, sym, ap, ◌∙◌, subst, arith, append-nil, append_assoc}
use Rattle.std.specs.Prelude.{Some, Ok, Err, All, slice_get, unwrap_or, flat_map}
use Rattle.std.specs.List.{enumerate_from}
use Rattle.std.specs.Option.{option_map_or}
use Rattle.std.proofs.lemmas.Grind.{flat_map-append}
use Rattle.std.proofs.lemmas.List.{length-map}
use Rattle.std.proofs.lemmas.List.Elements.{All-nil, All-cons, All-head, All-tail}
use Rattle.rn_value.specs.declared.value.Value.{Value, fold_out-Value}
use Rattle.rn_value.specs.declared.value.Value.TheVariants as Value
use Rattle.rn_value.specs.declared.value.Value.TheOpen as V
use Rattle.rn_value.specs.Text.{numeral, text_step, value_text}
use Rattle.rn_value.proofs.Numerals.{numeral_digit}
use Rattle.rn_model.specs.declared.system.System.{System}
use Rattle.rn_model.specs.declared.system.Net.{Net}
use Rattle.rn_model.specs.declared.system.Transition.{Transition}
use Rattle.rn_model.specs.declared.binding.Binding.{Binding}
use Rattle.rn_model.specs.declared.log.FaultKind.{FaultKind}
use Rattle.rn_model.specs.declared.log.Options.{Options}
use Rattle.rn_model.specs.declared.log.MarkLine.{MarkLine}
use Rattle.rn_model.specs.declared.log.Entry.TheVariants.{Fire}
use Rattle.rn_model.specs.declared.log.Reason.{Reason}
use Rattle.rn_model.specs.declared.log.Reason.TheVariants.{Dead, Steps, Fault, Memory}
use Rattle.rn_model.specs.Systems.{empty_transition, net_at}
use Rattle.rn_model.specs.Markings.{Marking}
use Rattle.rn_model.specs.Enabling.{DeadAt, Enabled}
use Rattle.rn_model.specs.Firing.{Fired, fire}
use Rattle.rn_model.specs.Limits.{most_workers}
use Rattle.rn_model.specs.Liveness.{LivePart}
use Rattle.rn_model.specs.NodeText.{all_given_text}
use Rattle.rn_model.specs.Runs.{Firing, IsTrueEnd, RunFrom, end_from, end_of, entries_of}
use Rattle.rn_model.proofs.OneLivePart.{live_part_is_unique}
use Rattle.rn_record.specs.RecordText.{binding_text, end_text, entries_text, entry_text, first_names, firing_lead, mark_text, names_after, names_at_end, record_text, token_text}
use Rattle.rn_weighted.specs.declared.weighted.Weighted.{Weighted}
use Rattle.rn_weighted.specs.declared.weighted.WPlace.{WPlace}
use Rattle.rn_weighted.specs.declared.weighted.WTransition.{WTransition}
use Rattle.rn_weighted.specs.Weighted.{IsWeighted}
use Rattle.rn_translated.specs.Translation.{place_name}
use Rattle.rn_translated.specs.WeightedRuns.{WRun, WRunFrom, WEnd, w_after, w_end_from, w_initial, w_transition}
use Rattle.rn_translated.specs.TranslatedSystem.{black, blacks, net_place, net_transition, translated_system, occurrence, marking_of}
use Rattle.rn_translated.specs.RecordLaws.{WFiring, transitions_of, w_firing_line, w_firing_lines, w_end_line, w_mark_line, w_mark_lines, where_any, w_record_text, WDead, IsTrueWEnd, WLog, IsTextOfLog, firing_by, RecordsAreOfRuns}
use Rattle.rn_translated.proofs.MarksOfEnds.{place_line, place_lines, no_part, whole_part}
use Rattle.rn_translated.proofs.OccurrencesFit.{may_occur, occurs}
use Rattle.rn_translated.proofs.RunsAlike.{begins, fires_so, is_one, its_arcs, led, one_fired, one_fires, there}

-- what a transition of the system has
abbrev transition_in : List WTransition → ℕ → Transition
transition_in ts t = unwrap_or (slice_get (map net_transition ts) t) empty_transition

no_creations : (ts : List WTransition) (t : ℕ) → (transition_in ts t).creations ≡ []
no_creations [] t = refl
no_creations (wt ∷ ts) zero = refl
no_creations (wt ∷ ts) (suc t) = no_creations ts t

its_name : (ts : List WTransition) (t : ℕ) →
    (transition_in ts t).name
    ≡ (unwrap_or (slice_get ts t) (record { name = []; arcs = [] })).name
its_name [] t = refl
its_name (wt ∷ ts) zero = refl
its_name (wt ∷ ts) (suc t) = its_name ts t

its_place : (ps : List WPlace) (p : ℕ) →
    option_map_or (λ place. place.name) (slice_get (map net_place ps) p) [] ≡ place_name ps p
its_place [] p = refl
its_place (place ∷ ps) zero = refl
its_place (place ∷ ps) (suc p) = its_place ps p

no_given : (names : List (List ℕ)) (net : Net) (xs : List ℕ) → all_given_text names net xs [] ≡ []
no_given names net [] = refl
no_given names net (x ∷ xs) = refl

-- the text of a black token
black_by : value_text black ≡ text_step (V.Tuple [])
black_by = fold_out-Value (List (List ℕ) → List ℕ) text_step black ∙ rw (Value.outs-Tuple [])

black_text : (names : List (List ℕ)) → value_text black names ≡ codes "[]"
black_text names = ap (λ f. f names) black_by

tokens_text : (names : List (List ℕ)) (n : ℕ) →
    flat_map (token_text names) (blacks n) ≡ flat_map (λ token. codes " []") (blacks n)
tokens_text names zero = refl
tokens_text names (suc n) =
    ap (λ t. (codes " " ++ t) ++ flat_map (token_text names) (blacks n)) (black_text names)
    ∙ ap (λ ts. codes " []" ++ ts) (tokens_text names n)

-- instance 1
abbrev main_1 : List ℕ → List ℕ
main_1 one = codes "main" ++ codes "[" ++ one ++ codes "]"

its_instance : main_1 (numeral 1) ≡ codes "main[1]"
its_instance = ap main_1 (numeral_digit 1 (omega arith))

line_parts : (numbers name inst given : List ℕ) → inst ≡ codes "main[1]" → given ≡ [] →
    (numbers ++ codes " " ++ (inst ++ codes "." ++ name ++ given) ++ codes "\n") ++ []
    ≡ numbers ++ codes " main[1]." ++ name ++ codes "\n"
line_parts numbers name inst given is none =
    append-nil (numbers ++ codes " " ++ (inst ++ codes "." ++ name ++ given) ++ codes "\n")
    ∙ ap (λ i. numbers ++ codes " " ++ (i ++ codes "." ++ name ++ given) ++ codes "\n") is
    ∙ ap (λ g. numbers ++ codes " " ++ (codes "main[1]." ++ name ++ g) ++ codes "\n") none
    ∙ ap (λ x. numbers ++ codes " " ++ x ++ codes "\n") (append-nil (codes "main[1]." ++ name))
    ∙ ap (λ x. x ++ codes "\n")
    (append_assoc numbers (codes " ") (codes "main[1]." ++ name)
    ∙ sym (append_assoc numbers (codes " main[1].") name))

module _ (net : Weighted) where
  abbrev system : System
  system = translated_system net

  names_stay : (t : ℕ) → names_after system first_names (occurrence t) ≡ first_names
  names_stay t =
      ap (λ cs. codes "main" ∷ (map (λ c. (net_at system c.net).name) cs ++ []))
      (no_creations net.transitions t)

  firing_text : (step : ℕ) (w : WFiring) →
      entry_text system first_names step (Fire w.worker (occurrence w.transition) [])
      ≡ w_firing_line net step w
  firing_text step w =
      append-nil
      (binding_text system first_names (firing_lead step w.worker) (occurrence w.transition))
      ∙ line_parts (numeral step ++ codes " w" ++ numeral w.worker)
      (transition_in net.transitions w.transition).name (main_1 (numeral 1))
      (all_given_text (names_after system first_names (occurrence w.transition)) (net_at system 0)
      (transition_in net.transitions w.transition).vars [])
      its_instance
      (no_given (names_after system first_names (occurrence w.transition)) (net_at system 0)
      (transition_in net.transitions w.transition).vars)
      ∙ ap
      (λ name.
      numeral step ++ codes " w" ++ numeral w.worker ++ codes " main[1]." ++ name ++ codes "\n")
      (its_name net.transitions w.transition)

  end_line : (options : Options) (ts : List ℕ) (names : List (List ℕ)) (reason : Reason) →
      IsTrueWEnd net options ts reason → end_text system names reason ++ [] ≡ w_end_line reason
  end_line options ts names Dead ends = refl
  end_line options ts names Steps ends = refl
  end_line options ts names Memory ends = refl
  end_line options ts names (Fault cause b) ends = absurd ends

  entries_say : (options : Options) (ts : List ℕ) (step : ℕ) (ws : List WFiring)
      (reason : Reason) → IsTrueWEnd net options ts reason →
      entries_text system first_names step (entries_of (map firing_by ws) (Some reason))
      ≡ w_firing_lines net step ws ++ w_end_line reason
  entries_say options ts step [] reason ends = end_line options ts first_names reason ends
  entries_say options ts step (w ∷ ws) reason ends =
      let rest = entries_of (map firing_by ws) (Some reason) in
      ap
      (λ t. t ++ entries_text system (names_after system first_names (occurrence w.transition))
      (step + 1) rest)
      (firing_text step w)
      ∙ ap (λ names. w_firing_line net step w ++ entries_text system names (step + 1) rest)
      (names_stay w.transition)
      ∙ ap (λ t. w_firing_line net step w ++ t) (entries_say options ts (step + 1) ws reason ends)
      ∙ sym
      (append_assoc (w_firing_line net step w) (w_firing_lines net (step + 1) ws)
      (w_end_line reason))

  names_stay_all : (ws : List WFiring) (reason : Reason) →
      names_at_end system first_names (entries_of (map firing_by ws) (Some reason)) ≡ first_names
  names_stay_all [] reason = refl
  names_stay_all (w ∷ ws) reason =
      ap (λ names. names_at_end system names (entries_of (map firing_by ws) (Some reason)))
      (names_stay w.transition)
      ∙ names_stay_all ws reason

  -- the lines of marks
  mark_says : (place n : ℕ) →
      flat_map (mark_text 1 system first_names) (place_line place n)
      ≡ w_mark_line (place_name net.places place) n
  mark_says place zero = refl
  mark_says place (suc n) =
      let name = option_map_or (λ p. p.name) (slice_get (map net_place net.places) place) [] in
      let tokens = flat_map (token_text first_names) (blacks (suc n)) in
      append-nil (main_1 (numeral 1) ++ codes "." ++ name ++ tokens ++ codes "\n")
      ∙ ap (λ i. i ++ codes "." ++ name ++ tokens ++ codes "\n") its_instance
      ∙ ap (λ x. codes "main[1]." ++ x ++ tokens ++ codes "\n") (its_place net.places place)
      ∙ ap (λ ts. codes "main[1]." ++ place_name net.places place ++ ts ++ codes "\n")
      (tokens_text first_names (suc n))

  all_marks_say : (place : ℕ) (m : List ℕ) →
      flat_map (mark_text 1 system first_names) (place_lines place m)
      ≡ flat_map (λ e. w_mark_line (place_name net.places e.0) e.1) (enumerate_from place m)
  all_marks_say place [] = refl
  all_marks_say place (n ∷ m) =
      flat_map-append (mark_text 1 system first_names) (place_line place n)
      (place_lines (place + 1) m)
      ∙ ap (λ t. t ++ flat_map (mark_text 1 system first_names) (place_lines (place + 1) m))
      (mark_says place n)
      ∙ ap (λ t. w_mark_line (place_name net.places place) n ++ t) (all_marks_say (place + 1) m)

  abbrev lines_of : List ℕ → List ℕ
  lines_of m =
      flat_map (λ e. w_mark_line (place_name net.places e.0) e.1) (enumerate_from 0 m)

  abbrev shown : List ℕ → List WTransition → List ℕ
  shown m ts = where_any ts (lines_of m)

  -- some marks are the live part, and their text is that of the marking
  abbrev HasMarks : List ℕ → Type 0
  HasMarks m =
      (marks : List MarkLine) × LivePart system (marking_of m) marks
      × (flat_map (mark_text 1 system first_names) marks ≡ w_mark_lines net m)

  has_marks : (m : List ℕ) → HasMarks m
  has_marks m = by net.transitions refl
    where
      by : (ts : List WTransition) → net.transitions ≡ ts → HasMarks m
      by [] none = ([], no_part net m none, ap (shown m) (sym none))
      by (t ∷ ts) some = (
        place_lines 0 m,
        whole_part net m t ts some,
        all_marks_say 0 m ∙ ap (shown m) (sym some),
      )

  marks_say : (m : List ℕ) (marks : List MarkLine) → LivePart system (marking_of m) marks →
      flat_map (mark_text 1 system first_names) marks ≡ w_mark_lines net m
  marks_say m marks live =
      let has = has_marks m in
      ap (flat_map (mark_text 1 system first_names))
      (live_part_is_unique system (marking_of m) marks has.0 live has.1)
      ∙ has.2

  text_says : (options : Options) (ws : List WFiring) (reason : Reason) (marks : List MarkLine) →
      IsTrueWEnd net options (transitions_of ws) reason →
      LivePart system (marking_of (WEnd net (transitions_of ws))) marks →
      record_text 1 system
      (record { entries = entries_of (map firing_by ws) (Some reason); marks = marks })
      ≡ w_record_text net ws reason
  text_says options ws reason marks ends live =
      ap
      (λ names. entries_text system first_names 1 (entries_of (map firing_by ws) (Some reason))
      ++ flat_map (mark_text 1 system names) marks)
      (names_stay_all ws reason)
      ∙ ap (λ t. t ++ flat_map (mark_text 1 system first_names) marks)
      (entries_say options (transitions_of ws) 1 ws reason ends)
      ∙ ap (λ t. w_firing_lines net 1 ws ++ w_end_line reason ++ t)
      (marks_say (WEnd net (transitions_of ws)) marks live)

abbrev CanBe : WFiring → Type 0
CanBe w = (1 ≤ w.worker) × (w.worker ≤ most_workers)

firing_is : (f : Firing) (b : Binding) → f.binding ≡ b → f.outs ≡ [] →
    f ≡ record { worker = f.worker; binding = b; outs = [] }
firing_is f b is silent =
    ap (λ x. record { worker = f.worker; binding = x; outs = f.outs }) is
    ∙ ap (λ x. record { worker = f.worker; binding = b; outs = x }) silent

module _ (net : Weighted) (good : IsWeighted net) where
  -- the runs, by whatever workers
  all_fire_by : (depth step : ℕ) (m : List ℕ) (ws : List WFiring) →
      WRunFrom net m (transitions_of ws) → All CanBe ws →
      RunFrom (translated_system net) depth step (marking_of m) (map firing_by ws)
  all_fire_by depth step m [] run can = tt
  all_fire_by depth step m (w ∷ ws) run can = (
    one_fires net good w.transition run.0 step m depth w.worker (All-head CanBe w ws can) run.1,
    subst (λ x. RunFrom (translated_system net) depth (suc step) x (map firing_by ws))
        (sym (led net good w.transition run.0 step m))
        (all_fire_by depth (suc step) (w_after (w_transition net w.transition) m) ws run.2
        (All-tail CanBe w ws can)),
  )

  ends_by : (step : ℕ) (m : List ℕ) (ws : List WFiring) → WRunFrom net m (transitions_of ws) →
      end_from (translated_system net) step (marking_of m) (map firing_by ws)
      ≡ marking_of (w_end_from net m (transitions_of ws))
  ends_by step m [] run = refl
  ends_by step m (w ∷ ws) run =
      ap (λ x. end_from (translated_system net) (suc step) x (map firing_by ws))
      (led net good w.transition run.0 step m)
      ∙ ends_by (suc step) (w_after (w_transition net w.transition) m) ws run.2

  abbrev AreBy : List ℕ → List Firing → Type 0
  AreBy m fs =
      (ws : List WFiring) × (fs ≡ map firing_by ws) × WRunFrom net m (transitions_of ws)
      × All CanBe ws

  all_by : (depth step : ℕ) (m : List ℕ) (fs : List Firing) →
      RunFrom (translated_system net) depth step (marking_of m) fs → AreBy m fs
  all_by depth step m [] run = ([], refl, tt, All-nil CanBe)
  all_by depth step m (f ∷ fs) run =
      let first = one_fired net good depth step m f run.0 in
      let rest = all_by depth (suc step) (w_after (w_transition net first.t) m) fs
      (subst (λ x. RunFrom (translated_system net) depth (suc step) x fs) first.led_to run.1) in
      let w : WFiring = record { worker = f.worker; transition = first.t } in (
        w ∷ rest.0,
        ap (λ x. x ∷ fs) (firing_is f (occurrence first.t) first.is first.silent)
            ∙ ap (λ others. firing_by w ∷ others) rest.1,
        (first.within, first.enabled, rest.2),
        All-cons CanBe w rest.0 run.0.worker rest.3,
      )

  -- the ends
  dead_there : (m : List ℕ) (depth : ℕ) → DeadAt (translated_system net) (marking_of m) depth →
      WDead net m
  dead_there m depth dead t within enabled =
      dead (occurrence t)
      (occurs net t (w_transition net t) (there net good t within) (its_arcs net good t within) m
      depth enabled)

  dead_here : (m : List ℕ) (depth : ℕ) → WDead net m →
      DeadAt (translated_system net) (marking_of m) depth
  dead_here m depth dead b enabled =
      let one = is_one net good depth m b enabled in
      let at_it =
      subst (λ x. Enabled (translated_system net) (marking_of m) x depth) one.2 enabled in
      dead one.0 one.1
      (may_occur net one.0 (w_transition net one.0) (there net good one.0 one.1)
      (its_arcs net good one.0 one.1) m at_it.fits)

  no_fault : (m : List ℕ) (depth step : ℕ) (b : Binding) (cause : FaultKind) →
      Enabled (translated_system net) (marking_of m) b depth →
      fire (translated_system net) (marking_of m) b step ≡ Err cause → ⊥
  no_fault m depth step b cause enabled fails =
      let one = is_one net good depth m b enabled in
      let fired = fires_so net good one.0 one.1 step m in
      let same = ap (λ x. fire (translated_system net) (marking_of m) x step) one.2 in
      is_ok _ cause (sym fired ∙ sym same ∙ fails)
    where
      is_ok : (f : Fired) (cause : FaultKind) → Ok f ≡ Err cause → ⊥
      is_ok f cause e = let no : ⊥ = cc in no

  module _ (options : Options) (ws : List WFiring) (run : WRun net (transitions_of ws)) where
    abbrev firings : List Firing
    firings = map firing_by ws

    abbrev numbers : List ℕ
    numbers = transitions_of ws

    abbrev last : Marking
    last = end_of (translated_system net) firings

    its_end : last ≡ marking_of (WEnd net numbers)
    its_end =
        ap (λ x. end_from (translated_system net) 1 x firings) (begins net)
        ∙ ends_by 1 (w_initial net) ws run

    many : length firings ≡ length numbers
    many = length-map ws firing_by ∙ sym (length-map ws (λ w. w.transition))

    end_there : (reason : Reason) → IsTrueEnd (translated_system net) options firings reason →
        IsTrueWEnd net options numbers reason
    end_there Dead ends = (
      dead_there (WEnd net numbers) options.depth
          (subst (λ x. DeadAt (translated_system net) x options.depth) its_end ends.0),
      subst (λ n. n < options.steps) many ends.1,
    )
    end_there Steps ends = sym many ∙ ends
    end_there (Fault cause b) ends =
        no_fault (WEnd net numbers) options.depth (suc (length firings)) b cause
        (subst (λ x. Enabled (translated_system net) x b options.depth) its_end ends.0)
        (ap (λ x. fire (translated_system net) x b (suc (length firings))) (sym its_end) ∙ ends.1)
    end_there Memory ends = tt

    end_here : (reason : Reason) → IsTrueWEnd net options numbers reason →
        IsTrueEnd (translated_system net) options firings reason
    end_here Dead ends = (
      subst (λ x. DeadAt (translated_system net) x options.depth) (sym its_end)
          (dead_here (WEnd net numbers) options.depth ends.0),
      subst (λ n. n < options.steps) (sym many) ends.1,
    )
    end_here Steps ends = many ∙ ends
    end_here (Fault cause b) ends = absurd ends
    end_here Memory ends = tt

    is_text : (reason : Reason) (bytes : List ℕ) → All CanBe ws → length ws ≤ options.steps →
        IsTrueWEnd net options numbers reason → bytes ≡ w_record_text net ws reason →
        IsTextOfLog net options firings reason bytes
    is_text reason bytes can steps ends text =
        let has = has_marks net (WEnd net numbers) in
        let few = length-map ws firing_by in
        record {
          log = record {
            run =
                subst (λ x. RunFrom (translated_system net) options.depth 1 x firings)
                (sym (begins net))
                (all_fire_by options.depth 1 (w_initial net) ws run can);
            steps = omega (arith, few, steps);
            ends = end_here reason ends;
          };
          marks = has.0;
          live = subst (λ x. LivePart (translated_system net) x has.0) (sym its_end) has.1;
          text = text ∙ sym (text_says net options ws reason has.0 ends has.1);
        }

    tells : (reason : Reason) (bytes : List ℕ) → All CanBe ws →
        IsTextOfLog net options firings reason bytes →
        WLog net options ws reason × (bytes ≡ w_record_text net ws reason)
    tells reason bytes can is =
        let few = length-map ws firing_by in
        let steps = is.log.steps in
        let ends = end_there reason is.log.ends in (
          record { run = run; workers = can; steps = omega (arith, few, steps); ends = ends },
          is.text
              ∙ text_says net options ws reason is.marks ends
              (subst (λ x. LivePart (translated_system net) x is.marks) its_end is.live),
        )

pub records_are_of_runs : RecordsAreOfRuns
records_are_of_runs net options fs reason bytes good = (
  λ is.
      let by_all = all_by net good options.depth 1 (w_initial net) fs
      (subst (λ x. RunFrom (translated_system net) options.depth 1 x fs) (begins net) is.log.run) in
      let told = tells net good options by_all.0 by_all.2 reason bytes by_all.3
      (subst (λ x. IsTextOfLog net options x reason bytes) by_all.1 is) in
      (by_all.0, by_all.1, told.0, told.1),
  λ found.
      let log = found.2 in
      subst (λ x. IsTextOfLog net options x reason bytes) (sym found.1)
      (is_text net good options found.0 log.run reason bytes log.workers log.steps log.ends
      found.3),
)
