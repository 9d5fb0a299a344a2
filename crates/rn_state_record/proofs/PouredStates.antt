-- What is poured of a state is its record.
use Rattle.std.proofs.Common.{◌≡◌, ◌<◌, ◌≤◌, ◌+◌, ℕ, suc, List, [], ◌∷◌, ◌++◌, Bool, true, false, length, length-append, take, map, refl, sym, ap, ◌∙◌, subst, arith, append-nil}
use Rattle.std.specs.Prelude.{◌↔◌, Option, Some, None, Result, Ok, Err, IfSome, codes, cond, not, flat_map, nat_eq, nat_lt, position, slice_get, unwrap_or}
use Rattle.std.specs.List.{count_by, prefix_len, position_or_len}
use Rattle.std.specs.Option.{option_map}
use Rattle.std.specs.Cmp.Lexicographic.{pointwise}
use Rattle.std.proofs.lemmas.Bool.{lt-ltb}
use Rattle.std.proofs.lemmas.List.Sums.{sum_by-cons}
use Rattle.rn_items.proofs.Numbers.{same_numbers}
use Rattle.rn_model.specs.declared.log.Entry.{Entry}
use Rattle.rn_model.specs.declared.log.Entry.TheVariants.{Fire, End}
use Rattle.rn_model.specs.declared.log.MarkLine.{MarkLine}
use Rattle.rn_model.specs.declared.log.Reason.{Reason}
use Rattle.rn_model.specs.declared.log.Told.{Told}
use Rattle.rn_model.specs.declared.system.Net.{Net}
use Rattle.rn_model.specs.declared.system.System.{System}
use Rattle.rn_model.specs.Good.{Good}
use Rattle.rn_model.specs.Liveness.{IsLive, LivePart, Stands}
use Rattle.rn_model.specs.Markings.{IsMarking, Marking}
use Rattle.rn_model.specs.Runs.{Firing, Log, entries_of}
use Rattle.rn_model.specs.Systems.{empty_net, main_net, net_at}
use Rattle.rn_live.specs.Rooms.{is_marked, marked_from}
use Rattle.rn_live.proofs.MarkedNumbers.{marked_ascend, marked_listed}
use Rattle.rn_spell.specs.Made.{names_of_nets}
use Rattle.rn_record.specs.RecordText.{entries_text, first_names, header_text, mark_text, names_at_end, record_text}
use Rattle.rn_record.specs.Nets.{EndsLast, EntriesFit, HasNets, first_of, nets_of_run}
use Rattle.rn_record.specs.Parts.{AreShort, entry_parts}
use Rattle.rn_record.specs.Writable.{HasText}
use Rattle.rn_record.proofs.EntriesInOrder.{fit_at_start, names_at_start}
use Rattle.rn_end_marking.specs.MarkTexts.{AreShort as AreShortMarks, marks_text}
use Rattle.rn_end_marking.specs.link.Lines.{lines_at}
use Rattle.rn_end_marking.proofs.LinesInOrder.{lines_of_live}
use Rattle.rn_outside.specs.Bytes.{AppendsPrefix, IsCalledSeldom}
use Rattle.rn_window.specs.Windows.{top}
use Rattle.rn_pour.specs.Flows.{Standing, Flows, Breaks}
use Rattle.rn_fire.specs.Nets.{nets_logged}
use Rattle.rn_fire.specs.States.{State, end_marking, logged}
use Rattle.rn_state_record.specs.Poured.{TakesRecord, BreaksRecord, HasEndlessRecord}
use Rattle.rn_state_record.specs.Written.{IsRecordOf}
use Rattle.rn_state_record.proofs.ShortParts.{entries_short, marks_short}
use Rattle.rn_state_record.proofs.WrittenStates.{has_text, live_at_end}

-- where something passes a test, the first that does is there
some_there : (t : Net → Bool) (nets : List Net) → 1 ≤ count_by t nets → position_or_len t nets < length nets
some_there t [] some = absurd (let no : ⊥ = omega (arith, some) in no)
some_there t (net ∷ nets) some = elim (t net) as (λ b. t net ≡ b → cond (not b) (1 + position_or_len t nets) 0 < suc (length nets)) [
  | true ↦ λ e. omega arith
  | false ↦ λ e.
      let all = sum_by-cons (λ x. cond (t x) 1 0) net nets in
      let none : (◌≡◌ {A = ℕ} (cond (t net) 1 0) 0) = ap (λ b. cond b 1 0) e in
      let rest = some_there t nets (omega (arith, some, all, none)) in
      omega (arith, rest)
] refl

-- it passes
first_passes : (t : Net → Bool) (nets : List Net) → position_or_len t nets < length nets → t (unwrap_or (slice_get nets (position_or_len t nets)) empty_net) ≡ true
first_passes t [] within = absurd (let no : ⊥ = omega (arith, within) in no)
first_passes t (net ∷ nets) within = elim (t net) as (λ b. t net ≡ b → cond (not b) (1 + position_or_len t nets) 0 < suc (length nets) → t (unwrap_or (slice_get (net ∷ nets) (cond (not b) (1 + position_or_len t nets) 0)) empty_net) ≡ true) [
  | true ↦ λ e there. e
  | false ↦ λ e there.
      let next : suc (position_or_len t nets) ≡ 1 + position_or_len t nets = omega arith in
      subst (λ k. t (unwrap_or (slice_get (net ∷ nets) k) empty_net) ≡ true) next
      (first_passes t nets (omega (arith, there)))
] refl within

-- the main net of a good system is named so
main_named : (system : System) → Good system → (net_at system (main_net system)).name ≡ codes "main"
main_named system good =
    let t : Net → Bool = λ net. pointwise nat_eq net.name (codes "main") in
    let within = some_there t system.nets (omega (arith, good.main)) in
    let place : position t system.nets ≡ Some (position_or_len t system.nets) =
    ap (λ b. cond b (Some (position_or_len t system.nets)) None) (lt-ltb (position_or_len t system.nets) (length system.nets) within) in
    let there = ap (λ o. net_at system (unwrap_or o 0)) place in
    ap (λ net. net.name) there
    ∙ same_numbers (net_at system (position_or_len t system.nets)).name (codes "main") (first_passes t system.nets within)

-- only the last entry of a log is an end
ends_last : (fs : List Firing) (ended : Option Reason) → EndsLast (entries_of fs ended)
ends_last [] None = tt
ends_last [] (Some reason) = tt
ends_last (f ∷ []) None = tt
ends_last (f ∷ []) (Some reason) = (tt, tt)
ends_last (f ∷ g ∷ fs) ended = (tt, ends_last (g ∷ fs) ended)

-- what waits is nothing
pub held_plain : (held : Option (List ℕ)) → option_map (λ h. h ++ []) held ≡ held
held_plain None = refl
held_plain (Some h) = ap Some (append-nil h)

-- Of a state with these entries and nets, whose table has these marks of live instances.
module _ (s : State) (system : System) (table : Marking) (is : system ≡ s.setup.system) (good : Good system)
    (stands : Stands s.setup.system table (end_marking s)) (entries : List Entry) (are : entries ≡ logged s)
    (nets : List ℕ) (made : nets ≡ nets_logged s) (log : Log s.setup.system s.setup.options s.fired s.ended)
    (marks : List Bool) (live : (n : ℕ) → (is_marked marks n ≡ true) ↔ IsLive system table n) where
  -- the lines of its live part
  abbrev pub lines : List MarkLine
  lines = flat_map (lines_at table) (marked_from 0 marks)

  pub are_live : LivePart system table lines
  are_live = lines_of_live system table (marked_from 0 marks) (marked_ascend 0 marks)
      (λ n. let listed = marked_listed marks n in let lives = live n in
      (λ there. lives.0 (listed.0 there), λ alive. listed.1 (lives.1 alive)))

  abbrev told : Told
  told = record { entries = entries; marks = lines }

  has_nets : HasNets system entries nets
  has_nets = record {
    first = main_net system;
    main = ap (λ name. name ∷ []) (main_named system good);
    all = made ∙ (λ i. nets_of_run (sym is i) (main_net (sym is i)) (sym are i));
  }

  -- its entries can be written by its nets
  pub fits : EntriesFit system nets 1 entries
  fits = fit_at_start system told nets has_nets
      (has_text s system table is good stands lines are_live entries are log)
      (subst EndsLast (sym are) (ends_last s.fired s.ended))

  -- what is poured is the text of its record
  pub text_is : (format named : ℕ) (marked_nets : List ℕ) → marked_nets ≡ take named nets →
      first_of system nets named ≡ names_at_end system (first_of system nets 1) entries →
      (header_text format ++ entries_text system (first_of system nets 1) 1 entries) ++ marks_text format system marked_nets lines
      ≡ record_text format s.setup.system (record { entries = logged s; marks = lines })
  text_is format named marked_nets cut names =
      let first = names_at_start system told nets has_nets in
      let last : names_of_nets system marked_nets ≡ names_at_end system first_names entries =
      ap (names_of_nets system) cut ∙ names ∙ ap (λ ns. names_at_end system ns entries) first in
      (λ i. (header_text format ++ entries_text system (first i) 1 entries) ++ flat_map (mark_text format system (last i)) lines)
      ∙ (λ i. record_text format (is i) (record { entries = are i; marks = lines }))

  pub its_record : LivePart s.setup.system (end_marking s) lines
  its_record = live_at_end s system table is good stands lines are_live

  -- and where a part of it isn't short, it has no end
  pub endless : (format named : ℕ) (marked_nets : List ℕ) → marked_nets ≡ take named nets →
      first_of system nets named ≡ names_at_end system (first_of system nets 1) entries →
      ¬ (AreShort (entry_parts system (first_of system nets 1) 1 entries) × AreShortMarks format system marked_nets table) →
      HasEndlessRecord format s
  endless format named marked_nets cut names long =
      let log = entries_text system (first_of system nets 1) 1 entries in
      let last = marks_text format system marked_nets lines in
      let bytes = record_text format s.setup.system (record { entries = logged s; marks = lines }) in
      let whole = ap (λ (bs : List ℕ). length bs) (sym (text_is format named marked_nets cut names)) in
      let front = length-append (header_text format ++ log) last in
      let first = length-append (header_text format) log in
      let no_less : ¬ (length bytes < top) = λ few. long (
        entries_short system (first_of system nets 1) 1 entries (omega (arith, few, whole, front, first)),
        marks_short format system marked_nets table lines are_live (omega (arith, few, whole, front)),
      ) in
      record {
        bytes = bytes;
        is_record = record { marks = lines; live = its_record; text = refl };
        endless = omega (arith, no_less);
      }

-- a sink that was called no more than for each byte was called seldom
seldom : (before since : Standing) → IfSome before.held (λ then. IfSome since.held (λ now. since.writes + length then ≤ before.writes + length now)) →
    IsCalledSeldom before.held since.held before.writes since.writes
seldom before since calls = by before.held since.held calls
  where
    by : (held later : Option (List ℕ)) → IfSome held (λ then. IfSome later (λ now. since.writes + length then ≤ before.writes + length now)) →
        IsCalledSeldom held later before.writes since.writes
    by None later calls = tt
    by (Some held) None calls = tt
    by (Some held) (Some later) calls = omega (arith, calls)

-- what flowed on is a record that was taken
pub takes : (format : ℕ) (s : State) (before since : Standing) (bytes : List ℕ) → IsRecordOf format s bytes →
    Flows before [] bytes since [] → TakesRecord format s before since
takes format s before since bytes is flows = record {
  bytes = bytes;
  is_record = is;
  text = sym (held_plain since.held) ∙ flows.holds;
  faults = flows.faults;
  calls = seldom before since flows.calls;
  none_empty = flows.none_empty;
}

-- what broke off is a record of which a part was taken
pub breaks : (format : ℕ) (s : State) (before since : Standing) (bytes : List ℕ) → IsRecordOf format s bytes →
    Breaks before [] bytes since → BreaksRecord format s before since
breaks format s before since bytes is broken = record {
  bytes = bytes;
  is_record = is;
  text = record { taken = broken.taken; short = broken.short; appends = broken.holds };
  faults = broken.faults;
  cause = broken.cause;
  calls = broken.calls;
  none_empty = broken.none_empty;
}
