-- What a record of format 1 tells is told in format 2 too.
use Rattle.std.proofs.Common.{◌≡◌, ℕ, ◌+◌, ◌≤◌, inl, inr, List, [], ◌∷◌, ◌++◌, length, map, refl, sym, ap, ◌∙◌, subst, arith, drop, length-append}
use Rattle.std.specs.Prelude.{Option, Some, None, codes, flat_map}
use Rattle.rn_value.specs.declared.value.Value.{Value}
use Rattle.rn_value.specs.Text.{value_text}
use Rattle.rn_model.specs.declared.system.System.{System}
use Rattle.rn_model.specs.declared.log.Entry.{Entry}
use Rattle.rn_model.specs.declared.log.Entry.TheVariants.{End}
use Rattle.rn_model.specs.declared.log.FaultKind.{FaultKind}
use Rattle.rn_model.specs.declared.log.FaultKind.TheVariants.{Action, Instances}
use Rattle.rn_model.specs.declared.log.MarkLine.{MarkLine}
use Rattle.rn_model.specs.declared.log.Reason.{Reason}
use Rattle.rn_lines.specs.LineText.{LineSaid}
use Rattle.rn_lines.specs.declared.lines.Ending.{Ending}
use Rattle.rn_lines.specs.declared.lines.Ending.TheVariants as Ends
use Rattle.rn_lookup.specs.declared.refusal.Refusal.{Refusal}
use Rattle.rn_record.specs.RecordText.{entries_text, first_names, header_text, mark_text, names_at_end, place_text, record_text, token_text, tokens_text}
use Rattle.rn_record_reader.specs.Bindings.{told_binding}
use Rattle.rn_record_reader.specs.Called.{BadAt, nodes_fault}
use Rattle.rn_record_reader.specs.Firings.{made_with}
use Rattle.rn_record_reader.specs.Laws.{RecordsMigrate}
use Rattle.rn_record_reader.specs.Lines.{lines_in}
use Rattle.rn_record_reader.specs.Marks.{marks_from, most_told_values}
use Rattle.rn_record_reader.specs.Nodes.{Placed, Stop, binding_lines}
use Rattle.rn_record_reader.specs.Runs.{Tells, TellsAfter, TellsRecord, Verdict, after_fault, bytes_after, end_read, fault_by, fault_read, first_line, first_made, opening, opening_of, with_marks}
use Rattle.rn_record_reader.specs.declared.role.Role.TheVariants.{Fault}
use Rattle.rn_record_reader.proofs.GroupedLines.{regrouped, regrouped_bytes}
use Rattle.rn_record_reader.proofs.GroupedMarks.{marks_again, values_in}
use Rattle.rn_record_reader.proofs.GroupedNodes.{fired_again, firing_again, nodes_again, read_again, same_fault, stop_again}
use Rattle.rn_record_reader.proofs.SpelledRuns.{entries_more, one_spelling, told_after}
use Rattle.rn_record_reader.proofs.WrittenRuns.{name_stands}

-- What begins at a line.
begins_again : (line : Option LineSaid) → opening (regrouped line) ≡ opening line
begins_again (Some (LineSaid.holds inst place items)) = refl
begins_again line = refl

opens_again : (lines : List (Option LineSaid)) → opening_of (map regrouped lines) ≡ opening_of lines
opens_again [] = refl
opens_again (line ∷ lines) = begins_again line

rest_again : (lines : List (Option LineSaid)) → drop 1 (map regrouped lines) ≡ map regrouped (drop 1 lines)
rest_again [] = refl
rest_again (line ∷ lines) = refl

-- Ends. The lines before them may be more or fewer.
module _ (system : System) (made : List ℕ) (es : List Entry) (ms : List MarkLine) (few : length (values_in ms) ≤ most_told_values) where
  marks_told_again : (reason : Reason) (line other : ℕ) (lines : List (Option LineSaid)) →
      with_marks reason line (marks_from 1 system made 0 lines) ≡ Verdict.tells es ms →
      with_marks reason other (marks_from 2 system made 0 (map regrouped lines)) ≡ Verdict.tells es ms
  marks_told_again reason line other lines e = by (marks_from 1 system made 0 lines).0 (marks_from 1 system made 0 lines).1 refl e
    where
      by : (marks : List MarkLine) (o : Option Refusal) → marks_from 1 system made 0 lines ≡ (marks, o) →
          with_marks reason line (marks, o) ≡ Verdict.tells es ms →
          with_marks reason other (marks_from 2 system made 0 (map regrouped lines)) ≡ Verdict.tells es ms
      by marks (Some refusal) is e = absurd (let no : ⊥ = cc in no)
      by marks None is e =
          let entries : End reason ∷ [] ≡ es = cc in
          let same : marks ≡ ms = cc in
          let all : marks_from 1 system made 0 lines ≡ (ms, None) = is ∙ ap (λ m. let read : List MarkLine × Option Refusal = (m, None) in read) same in
          ap (with_marks reason other) (marks_again system made lines 0 0 ms all (omega (arith, few)))
          ∙ ap (λ xs. Verdict.tells xs ms) entries

  after_again : (line other : ℕ) (cause : FaultKind) (nodes : List Placed) (stop : Stop) →
      after_fault 1 system made line cause nodes stop ≡ Verdict.tells es ms →
      after_fault 2 system made other cause nodes (stop_again stop) ≡ Verdict.tells es ms
  after_again line other cause nodes (Stop.whole lines) e =
      marks_told_again (Reason.Fault cause (told_binding system (length made) nodes)) (line + length nodes) (other + length nodes) lines e
  after_again line other cause nodes (Stop.late n) e = absurd (let no : ⊥ = cc in no)
  after_again line other cause nodes (Stop.refused refusal) e = absurd (let no : ⊥ = cc in no)

  by_fault : (line other : ℕ) (cause : FaultKind) (read : List Placed × Stop) (o : Option BadAt) →
      fault_by 1 system made line cause read o ≡ Verdict.tells es ms →
      fault_by 2 system made other cause (read_again read) o ≡ Verdict.tells es ms
  by_fault line other cause read (Some b) e = absurd (let no : ⊥ = cc in no)
  by_fault line other cause read None e = after_again line other cause read.0 read.1 e

  fault_again : (line other : ℕ) (cause : FaultKind) (lines : List (Option LineSaid)) →
      fault_read 1 system made line cause lines ≡ Verdict.tells es ms →
      fault_read 2 system made other cause (map regrouped lines) ≡ Verdict.tells es ms
  fault_again line other cause lines e =
      let read : List Placed × Stop = binding_lines system Fault lines in
      let all : List ℕ = made_with system made read in
      ap (λ r. fault_by 2 system made other cause r (nodes_fault system (made_with system made r) r)) (nodes_again system Fault lines ([] ∷ []))
      ∙ ap (fault_by 2 system made other cause (read_again read)) (same_fault system all read)
      ∙ by_fault line other cause read (nodes_fault system all read) e

  end_told_again : (ending : Ending) (line other : ℕ) (lines : List (Option LineSaid)) →
      end_read 1 system made line ending lines ≡ Verdict.tells es ms →
      end_read 2 system made other ending (map regrouped lines) ≡ Verdict.tells es ms
  end_told_again Ends.Dead line other lines e = marks_told_again Reason.Dead line other lines e
  end_told_again Ends.Steps line other lines e = marks_told_again Reason.Steps line other lines e
  end_told_again Ends.Memory line other lines e = marks_told_again Reason.Memory line other lines e
  end_told_again Ends.ActionFault line other lines e = fault_again line other Action lines e
  end_told_again Ends.InstancesFault line other lines e = fault_again line other Instances lines e

-- Runs.
run_again : (system : System) (made : List ℕ) (step line : ℕ) (lines : List (Option LineSaid)) (v : Verdict) →
    Tells 1 system made step line lines v → (es : List Entry) (ms : List MarkLine) → v ≡ Verdict.tells es ms →
    length (values_in ms) ≤ most_told_values → (other : ℕ) → Tells 2 system made step other (map regrouped lines) (Verdict.tells es ms)
run_again system made step line lines v (Tells.stray p) es ms e few other = absurd (let no : ⊥ = cc in no)
run_again system made step line lines v (Tells.broken p r) es ms e few other = absurd (let no : ⊥ = cc in no)
run_again system made step line lines v (Tells.ended {e = ending} p) es ms e few other =
    subst (Tells 2 system made step other (map regrouped lines))
    (ap (end_read 2 system made (other + 1) ending) (rest_again lines)
    ∙ end_told_again system made es ms few ending (line + 1) (other + 1) (drop 1 lines) e)
    (Tells.ended {e = ending} (opens_again lines ∙ p))
run_again system made step line lines v (Tells.fired {all = all} {worker = worker} {count = count} {rest = rest} {entry = entry} {v = w} p r t) es ms e few other =
    let more = entries_more entry w es ms e in
    let later = run_again system all (step + 1) (line + count) rest w t more.0 ms more.1 few (other + count) in
    subst (λ xs. Tells 2 system made step other (map regrouped lines) (Verdict.tells xs ms)) (sym more.2)
    (Tells.fired (opens_again lines ∙ p) (firing_again system made step worker lines ∙ ap fired_again r) later)

-- Each value of a mark of format 1 takes a byte at least.
values_take_bytes : (names : List (List ℕ)) (vs : List Value) → length vs ≤ length (flat_map (token_text names) vs)
values_take_bytes names [] = omega arith
values_take_bytes names (v ∷ vs) =
    let rest = values_take_bytes names vs in
    let all = length-append (token_text names v) (flat_map (token_text names) vs) in
    let own = length-append (codes " ") (value_text v names) in
    omega (arith, rest, all, own)

marks_take_bytes : (system : System) (names : List (List ℕ)) (ms : List MarkLine) →
    length (values_in ms) ≤ length (flat_map (mark_text 1 system names) ms)
marks_take_bytes system names [] = omega arith
marks_take_bytes system names (m ∷ ms) =
    let rest = marks_take_bytes system names ms in
    let values = values_take_bytes names m.values in
    let both = length-append m.values (values_in ms) in
    let all = length-append (mark_text 1 system names m) (flat_map (mark_text 1 system names) ms) in
    let tokens = tokens_text 1 names m.values in
    let line = length-append (place_text system m ++ tokens) (codes "\n") in
    let start = length-append (place_text system m) tokens in
    omega (arith, rest, values, both, all, line, start)

few_values : (system : System) (bytes : List ℕ) (es : List Entry) (ms : List MarkLine) →
    bytes ≡ record_text 1 system (record { entries = es; marks = ms }) → length bytes ≤ most_told_values → length (values_in ms) ≤ most_told_values
few_values system bytes es ms is short =
    let names = names_at_end system first_names es in
    let entries = entries_text system first_names 1 es in
    let marks = flat_map (mark_text 1 system names) ms in
    let long : length bytes ≡ length (entries ++ marks) = ap length is in
    let both = length-append entries marks in
    let bytes_enough = marks_take_bytes system names ms in
    omega (arith, short, long, both, bytes_enough)

pub records_migrate : RecordsMigrate
records_migrate system bytes es ms good short told =
    let after = told_after 1 system (bytes_after (header_text 1) bytes) es ms told in
    let few = few_values system bytes es ms (one_spelling system 1 bytes es ms good (inl refl) told) short in
    let written = regrouped_bytes after.0 in
    let lines : Tells 2 system (first_made system) 1 (first_line 2) (lines_in written.0) (Verdict.tells es ms) =
    subst (λ ls. Tells 2 system (first_made system) 1 (first_line 2) ls (Verdict.tells es ms)) (sym written.1)
    (run_again system (first_made system) 1 (first_line 1) (lines_in after.0) (Verdict.tells es ms) after.2 es ms refl few (first_line 2)) in
    let again : TellsRecord system 2 (header_text 2 ++ written.0) (Verdict.tells es ms) =
    subst (λ o. TellsAfter 2 system o (Verdict.tells es ms)) (sym (name_stands 2 written.0 (inr refl))) lines in
    subst (λ text. TellsRecord system 2 text (Verdict.tells es ms))
    (one_spelling system 2 (header_text 2 ++ written.0) es ms good (inr refl) again) again
