-- The names of the instances that were made so far, and which bindings and entries can be written.
use Rattle.std.proofs.Common.{◌≡◌, ℕ, ◌+◌, List, [], ◌∷◌, ◌++◌, length, take, refl, sym, ap, ◌∙◌, subst}
use Rattle.std.specs.Prelude.{Option, Some, None, drop}
use Rattle.std.proofs.lemmas.List.{append-nil, append_assoc, take-append-drop}
use Rattle.rn_model.specs.declared.log.Entry.{Entry}
use Rattle.rn_model.specs.declared.log.Entry.TheVariants.{Fire, End}
use Rattle.rn_model.specs.declared.log.Reason.{Reason}
use Rattle.rn_model.specs.declared.system.System.{System}
use Rattle.rn_model.specs.Markings.{Marking}
use Rattle.rn_model.specs.Runs.{Firing, entries_of}
use Rattle.rn_record.specs.RecordText.{first_names, names_at_end, names_past}
use Rattle.rn_record.specs.Writable.{HasEntry, HaveEntries}
use Rattle.rn_fire.specs.declared.setup.Setup.{Setup}
use Rattle.rn_fire.specs.States.{State, IsState, end_marking, logged}
use Rattle.rn_state_record.proofs.TextsOfLogs.{logs_have_entries, names_are_counted}
use Rattle.rn_session.specs.link.Serving.{AreNamesBefore, HasLast, names_at}
use Rattle.rn_session.specs.Sessions.{IsSession}

module _ (system : System) where
  -- the names after entries and others
  pub names_through : (es later : List Entry) (names : List (List ℕ)) →
      names_at_end system names (es ++ later) ≡ names_at_end system (names_at_end system names es) later
  names_through [] later names = refl
  names_through (e ∷ es) later names = names_through es later (names_past system names e)

  -- names are only added
  past : (names : List (List ℕ)) (e : Entry) →
      (more : List (List ℕ)) × (names_past system names e ≡ names ++ more)
  past names (Fire worker b outs) = (_, refl)
  past names (End reason) = ([], sym (append-nil names))

  pub names_grow : (es : List Entry) (names : List (List ℕ)) →
      (more : List (List ℕ)) × (names_at_end system names es ≡ names ++ more)
  names_grow [] names = ([], sym (append-nil names))
  names_grow (e ∷ es) names =
      let here = past names e in
      let rest = names_grow es (names_past system names e) in
      (here.0 ++ rest.0, rest.1 ∙ ap (λ ns. ns ++ rest.0) here.1 ∙ append_assoc names here.0 rest.0)

  -- an end makes none
  pub with_end_too : (fs : List Firing) (ended : Option Reason) (names : List (List ℕ)) →
      names_at_end system names (entries_of fs ended) ≡ names_at_end system names (entries_of fs None)
  with_end_too [] None names = refl
  with_end_too [] (Some reason) names = refl
  with_end_too (f ∷ fs) ended names = with_end_too fs ended (names_past system names (Fire f.worker f.binding f.outs))

  -- the last of entries that can be written
  last_written : (es : List Entry) (e : Entry) (names : List (List ℕ)) →
      HaveEntries system names (es ++ e ∷ []) → HasEntry system (names_at_end system names es) e
  last_written [] e names have = have.0
  last_written (first ∷ es) e names have = last_written es e (names_past system names first) have.1

-- the names of a state, by all its entries
pub by_entries : (s : State) → names_at s ≡ names_at_end s.setup.system first_names (logged s)
by_entries s = sym (with_end_too s.setup.system s.fired s.ended first_names)

-- one entry more
pub has_last : (old new : State) (e : Entry) → new.setup ≡ old.setup → IsState new →
    logged new ≡ logged old ++ e ∷ [] → HasLast new (names_at old)
has_last old new e setup is came =
    let system = new.setup.system in
    let names : names_at old ≡ names_at_end system first_names (logged old) =
    by_entries old ∙ ap (λ (x : Setup). names_at_end x.system first_names (logged old)) (sym setup) in
    record {
      entry = e;
      before = logged old;
      last = came;
      written = subst (λ ns. HasEntry system ns e) (sym names)
          (last_written system (logged old) e first_names
          (subst (HaveEntries system first_names) came
          (logs_have_entries system new.setup.options new.fired new.ended is.good is.log)));
      named = by_entries new ∙ ap (names_at_end system first_names) came
          ∙ names_through system (logged old) (e ∷ []) first_names
          ∙ ap (λ ns. names_past system ns e) (sym names);
    }

-- fewer entries
pub names_before : (old new : State) (k : ℕ) → new.setup ≡ old.setup →
    logged new ≡ take k (logged old) → AreNamesBefore new (names_at old)
names_before old new k setup first =
    let system = new.setup.system in
    let more = names_grow system (drop k (logged old)) (names_at_end system first_names (logged new)) in (
      more.0,
      by_entries old ∙ ap (λ (x : Setup). names_at_end x.system first_names (logged old)) (sym setup)
          ∙ ap (names_at_end system first_names) (sym (take-append-drop k (logged old)) ∙ ap (λ es. es ++ drop k (logged old)) (sym first))
          ∙ names_through system (logged new) (drop k (logged old)) first_names
          ∙ more.1 ∙ ap (λ ns. ns ++ more.0) (sym (by_entries new)),
    )

-- how many there are
pub count_names : (s : State) → IsState s → length (names_at s) + 1 ≡ (end_marking s).next
count_names s is = names_are_counted s.setup.system s.setup.options.depth s.fired is.good is.log.run

pub next_is : (s : State) → IsSession s → s.table.marking.next ≡ length (names_at s) + 1
next_is s is = ap (λ (m : Marking). m.next) is.all ∙ sym (count_names s is.state)
