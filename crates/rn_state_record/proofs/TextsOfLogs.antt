-- Each log of a good system has a text.
use Rattle.std.proofs.Common.{◌≡◌, ◌≤◌, ◌<◌, ℕ, suc, ◌+◌, Bool, true, false, List, [], ◌∷◌, length, refl, sym, ◌∙◌, subst, arith}
use Rattle.std.specs.Prelude.{All, Contains, Option, Some, None, Ok, ⊤, flat_map}
use Rattle.std.proofs.lemmas.List.{length-append}
use Rattle.std.proofs.lemmas.List.Elements.{All-contains_itself, All-weaker, recursion_from_All}
use Rattle.rn_value.specs.Names.{AreNamed}
use Rattle.rn_model.specs.declared.system.System.{System}
use Rattle.rn_model.specs.declared.binding.Binding.{Binding}
use Rattle.rn_model.specs.declared.log.MarkLine.{MarkLine}
use Rattle.rn_model.specs.declared.log.Options.{Options}
use Rattle.rn_model.specs.declared.log.Reason.{Reason}
use Rattle.rn_model.specs.declared.log.Reason.TheVariants.{Dead, Steps, Fault, Memory}
use Rattle.rn_model.specs.Bindings.{IsNodeOf, Shape}
use Rattle.rn_model.specs.Enabling.{Enabled}
use Rattle.rn_model.specs.Firing.{Effects, Fired, creations_of, effects, firing_result, named, too_many}
use Rattle.rn_model.specs.Good.{Good}
use Rattle.rn_model.specs.Liveness.{IsMarkOf}
use Rattle.rn_model.specs.Markings.{IsMarking, Marking, initial_marking, tokens_at}
use Rattle.rn_model.specs.Runs.{EndsTruly, Firing, Fires, Log, Run, RunFrom, after_firing, end_entries, end_from, end_of, entries_of}
use Rattle.rn_model.specs.SoundTokens.{HasSoundTokens}
use Rattle.rn_model.proofs.CountsAfterFiring.{next_after_firing}
use Rattle.rn_model.proofs.InitialTokens.{initial_tokens_are_sound}
use Rattle.rn_model.proofs.MarkingsOfRuns.{firings_keep_markings, initial_is_marking}
use Rattle.rn_model.proofs.SoundAfter.{firings_keep_tokens_sound, firings_report_what_is_there}
use Rattle.rn_model.proofs.NumbersOfRuns.{stays_within}
use Rattle.rn_model.proofs.InstancesWithin.{within_is_only}
use Rattle.rn_model.specs.NodeText.{IsWritable}
use Rattle.rn_record.specs.RecordText.{first_names, names_after, names_at_end, names_by}
use Rattle.rn_record.specs.Writable.{HasLines, HaveEntries}
use Rattle.rn_state_record.specs.Laws.{EnabledHaveLines, LogsHaveText}
use Rattle.rn_state_record.proofs.NamesOfRuns.{count_after, few_names}
use Rattle.rn_state_record.proofs.NumberedInstances.{nodes_writable, there_is_low}

-- the numbers of a binding's instances stay below 2^32
low_numbers : (system : System) (names : List (List ℕ)) (b : Binding) (depth next : ℕ) →
    Good system → Shape system b depth → length names + 1 ≡ next → next ≤ 1000001 →
    length names + 1 + length (creations_of system b) < 4294967296
low_numbers system names b depth next good shape first low =
    let few = few_names system b.nodes good (recursion_from_All (IsNodeOf system) b.nodes shape.nodes) in
    let named = length-append names (flat_map (names_by system) b.nodes) in
    let count = count_after system names b in
    let many = shape.many in
    omega (arith, first, low, few, named, count, many)

-- a defined firing doesn't make too many instances
few_made : (system : System) (m : Marking) (b : Binding) (f : Fired) (o : Option Effects) →
    firing_result system m b o ≡ Ok f →
    too_many m.next (length (creations_of system b)) ≡ false
few_made system m b f None e = absurd (let no : ⊥ = cc in no)
few_made system m b f (Some acts) e = by (too_many m.next (length (creations_of system b))) refl e
  where
    by : (over : Bool) → too_many m.next (length (creations_of system b)) ≡ over →
        firing_result system m b (Some acts) ≡ Ok f →
        too_many m.next (length (creations_of system b)) ≡ false
    by true over e = let undefined = rw over at e in absurd (let no : ⊥ = cc in no)
    by false over e = over

-- What is true at a marking of a run, where the instances made by then have these names.
record IsNamed (system : System) (m : Marking) (names : List (List ℕ)) : Type 0 where
  pub marking : IsMarking system m
  pub sound : HasSoundTokens system m
  pub count : length names + 1 ≡ m.next
  pub low : m.next ≤ 1000001

module _ (system : System) (depth : ℕ) (good : Good system) where
  first_named : IsNamed system (initial_marking system) first_names
  first_named = record {
    marking = initial_is_marking system good;
    sound = initial_tokens_are_sound system good;
    count = refl;
    low = omega arith;
  }

  -- an enabled binding can be written
  has_lines : (m : Marking) (names : List (List ℕ)) (b : Binding) → IsNamed system m names →
      Enabled system m b depth → HasLines system names b
  has_lines m names b at enabled = record {
    low = low_numbers system names b depth m.next good enabled.shape at.count at.low;
    nodes =
        subst (λ n. All (IsWritable system (names_after system names b)) (named system b n).nodes) (sym at.count)
        (nodes_writable system m b depth (length names) good at.marking at.sound enabled at.count
        (names_after system names b) (count_after system names b));
  }

  -- one firing
  module _ (step : ℕ) (m : Marking) (f : Firing) (names : List (List ℕ))
      (at : IsNamed system m names) (fires : Fires system depth step m f) where
    abbrev given : Fired
    given = record { marking = after_firing system step m f; outs = f.outs }

    still_named : IsNamed system given.marking (names_after system names f.binding)
    still_named =
        let next = next_after_firing system m f.binding step given fires.fired in
        let count = at.count in
        let more = count_after system names f.binding in
        let within = stays_within m.next (length (creations_of system f.binding)) at.low
        (few_made system m f.binding given (effects system f.binding m.next step) fires.fired) in
        record {
          marking = firings_keep_markings system m f.binding depth step given good at.marking fires.enabled fires.fired;
          sound = firings_keep_tokens_sound system m f.binding depth step given good at.marking at.sound fires.enabled fires.fired;
          count = omega (arith, next, count, more);
          low = omega (arith, next, within);
        }

    -- the values that it prints
    prints_named : All (AreNamed (names_after system names f.binding)) f.outs
    prints_named =
        let last = length (names_after system names f.binding) in
        let reports = firings_report_what_is_there system m f.binding depth step given good at.marking at.sound fires.enabled fires.fired in
        let count = still_named.count in
        All-weaker (Contains f.outs) (AreNamed (names_after system names f.binding))
        (λ v has.
        let names_it = reports.outs v has in
        within_is_only last v ∙ there_is_low system given.marking last v still_named.marking
        (omega (arith, count)) names_it.old names_it.there) f.outs (All-contains_itself f.outs)

  -- where a fault ends the log, its binding is enabled
  abbrev NamesEnabled : Option Reason → Marking → Type 0
  NamesEnabled None m = ⊤
  NamesEnabled (Some Dead) m = ⊤
  NamesEnabled (Some Steps) m = ⊤
  NamesEnabled (Some (Fault cause b)) m = Enabled system m b depth
  NamesEnabled (Some Memory) m = ⊤

  has_end : (ended : Option Reason) (m : Marking) (names : List (List ℕ)) → IsNamed system m names →
      NamesEnabled ended m → HaveEntries system names (end_entries ended)
  has_end None m names at e = tt
  has_end (Some Dead) m names at e = (tt, tt)
  has_end (Some Steps) m names at e = (tt, tt)
  has_end (Some (Fault cause b)) m names at e = (has_lines m names b at e, tt)
  has_end (Some Memory) m names at e = (tt, tt)

  have_entries : (fs : List Firing) (ended : Option Reason) (step : ℕ) (m : Marking)
      (names : List (List ℕ)) → IsNamed system m names → RunFrom system depth step m fs →
      NamesEnabled ended (end_from system step m fs) → HaveEntries system names (entries_of fs ended)
  have_entries [] ended step m names at run e = has_end ended m names at e
  have_entries (f ∷ fs) ended step m names at (fires, run) e = (
    (has_lines m names f.binding at fires.enabled, prints_named step m f names at fires),
    have_entries fs ended (suc step) (after_firing system step m f) (names_after system names f.binding)
        (still_named step m f names at fires) run e,
  )

  named_at_end : (fs : List Firing) (ended : Option Reason) (step : ℕ) (m : Marking)
      (names : List (List ℕ)) → IsNamed system m names → RunFrom system depth step m fs →
      IsNamed system (end_from system step m fs) (names_at_end system names (entries_of fs ended))
  named_at_end [] None step m names at run = at
  named_at_end [] (Some reason) step m names at run = at
  named_at_end (f ∷ fs) ended step m names at (fires, run) =
      named_at_end fs ended (suc step) (after_firing system step m f) (names_after system names f.binding)
      (still_named step m f names at fires) run

  -- the tokens of a mark
  mark_named : (m : Marking) (names : List (List ℕ)) → IsNamed system m names → (line : MarkLine) →
      IsMarkOf system m line → All (AreNamed names) line.values
  mark_named m names at line mark =
      let there = tokens_at m line.inst line.place in
      let count = at.count in
      subst (All (AreNamed names)) (sym mark.values)
      (All-weaker (Contains there) (AreNamed names)
      (λ v has.
      let token = at.sound line.inst line.net line.place v mark.net has in
      within_is_only (length names) v ∙ there_is_low system m (length names) v at.marking
      (omega (arith, count)) token.old token.there) there (All-contains_itself there))

ends_enabled : (system : System) (options : Options) (fs : List Firing) (ended : Option Reason) →
    EndsTruly system options fs ended → (good : Good system) →
    NamesEnabled system options.depth good ended (end_of system fs)
ends_enabled system options fs None e good = tt
ends_enabled system options fs (Some Dead) e good = tt
ends_enabled system options fs (Some Steps) e good = tt
ends_enabled system options fs (Some (Fault cause b)) e good = e.0
ends_enabled system options fs (Some Memory) e good = tt

-- the entries of a log can be written
pub logs_have_entries : (system : System) (options : Options) (fs : List Firing)
    (ended : Option Reason) → Good system → Log system options fs ended →
    HaveEntries system first_names (entries_of fs ended)
logs_have_entries system options fs ended good log =
    have_entries system options.depth good fs ended 1 (initial_marking system) first_names
    (first_named system options.depth good) log.run (ends_enabled system options fs ended log.ends good)

-- there are as many names as instances were made, and the next one gets the number after theirs
pub names_are_counted : (system : System) (depth : ℕ) (fs : List Firing) → Good system →
    Run system depth fs →
    length (names_at_end system first_names (entries_of fs None)) + 1 ≡ (end_of system fs).next
names_are_counted system depth fs good run =
    (named_at_end system depth good fs None 1 (initial_marking system) first_names
    (first_named system depth good) run).count

-- a log of a good system has a text, with the live part of the marking at its end
pub logs_have_text : LogsHaveText
logs_have_text system options fs ended marks good log live =
    let depth = options.depth in
    let m = initial_marking system in
    let names = names_at_end system first_names (entries_of fs ended) in
    let at_end =
    named_at_end system depth good fs ended 1 m first_names (first_named system depth good) log.run in
    record {
      entries = logs_have_entries system options fs ended good log;
      marks =
          All-weaker (IsMarkOf system (end_of system fs)) (λ line. All (AreNamed names) line.values)
          (mark_named system depth good (end_of system fs) names at_end) marks live.each;
    }

-- a binding that is enabled at the end of a run can be written there
pub enabled_have_lines : EnabledHaveLines
enabled_have_lines system depth fs b good run enabled =
    has_lines system depth good (end_of system fs) (names_at_end system first_names (entries_of fs None)) b
    (named_at_end system depth good fs None 1 (initial_marking system) first_names
    (first_named system depth good) run) enabled
