-- Marks with their items grouped tell in format 2 what they told in format 1.
use Rattle.std.proofs.Common.{◌≡◌, ℕ, ◌+◌, ◌≤◌, cond, List, [], ◌∷◌, ◌++◌, length, map, refl, ap, ◌∙◌, arith, length-append}
use Rattle.std.specs.Prelude.{Option, Some, None, ◌&&◌, flat_map, not, option_map}
use Rattle.std.specs.List.{list_all}
use Rattle.rn_items.proofs.Bools.{and_left, and_right, true_both}
use Rattle.rn_value.specs.declared.value.Value.{Value}
use Rattle.rn_value.specs.declared.value.Kind.{Kind}
use Rattle.rn_value.specs.Kinds.{value_has_kind}
use Rattle.rn_model.specs.declared.system.System.{System}
use Rattle.rn_model.specs.declared.log.MarkLine.{MarkLine}
use Rattle.rn_model.specs.Systems.{net_at, place_kind_in}
use Rattle.rn_lines.specs.LineText.{Held, LineSaid}
use Rattle.rn_lookup.specs.declared.refusal.Refusal.{Refusal}
use Rattle.rn_lookup.specs.declared.refusal.Refusal.TheVariants.{Form, Name, Many}
use Rattle.rn_lookup.specs.Faults.{has_place, mark_fault, tokens_fault}
use Rattle.rn_lookup.specs.Found.{are_called, is_called, name_nets, net_said, place_said, tokens_are_called, tokens_held}
use Rattle.rn_record_reader.specs.Marks.{Marked, count_fault, counted_after, fault_of_mark, first_reason, format_fault, mark_then, marked, marked_then, marks_from, most_told_values, size_of, told_mark, uncalled_mark, values_told}
use Rattle.rn_record_reader.proofs.GroupedItems.{grouped, grouped_all, grouped_parted, grouped_values}
use Rattle.rn_record_reader.proofs.GroupedLines.{regrouped}
use Rattle.rn_record_reader.proofs.HeldValues.{values_are}
use Rattle.rn_record_reader.proofs.SpelledMarks.{none_first, passes}
use Rattle.rn_record_reader.proofs.SpelledNodes.{unfaulty}
use Rattle.rn_record_reader.proofs.WrittenMarks.{not_over}

-- all values of marks
abbrev pub values_in : List MarkLine → List Value
values_in = flat_map (λ line. line.values)

-- what the line of a mark says then
abbrev pub regrouped_mark : Marked → Marked
regrouped_mark m = record { inst = m.inst; place = m.place; items = grouped m.items }

marked_again : (line : Option LineSaid) → marked (regrouped line) ≡ option_map regrouped_mark (marked line)
marked_again (Some (LineSaid.holds inst place items)) = refl
marked_again line = refl

module _ (system : System) (made : List ℕ) where
  -- Its tokens are fine, and it tells the same.
  tokens_again : (kind : Kind) (items : List Held) → tokens_fault system kind (tokens_held items) ≡ None →
      tokens_fault system kind (tokens_held (grouped items)) ≡ None
  tokens_again kind items fine =
      let kinds = unfaulty (list_all (λ t. value_has_kind t.value kind) (tokens_held items)) Form _ fine in
      let nets = unfaulty (list_all (λ t. name_nets system t.named) (tokens_held items)) Name None kinds.1 in
      ap (λ b. cond (not b) (Some Form) (cond (not (list_all (λ t. name_nets system t.named) (tokens_held (grouped items)))) (Some Name) None))
      (grouped_all (λ t. value_has_kind t.value kind) items kinds.0)
      ∙ ap (λ b. cond (not b) (Some Name) None) (grouped_all (λ t. name_nets system t.named) items nets.0)

  fine_again : (m : Marked) (before held : ℕ) → fault_of_mark 1 system made before m ≡ None →
      held + length (values_told m.items) ≤ most_told_values → fault_of_mark 2 system made held (regrouped_mark m) ≡ None
  fine_again m before held fine few =
      let tokens = tokens_held m.items in
      let items : List Held = grouped m.items in
      let kind = place_kind_in (net_at system (net_said system m.inst)) (place_said system m.inst m.place) in
      let p = none_first (format_fault 1 m) _ fine in
      let q = none_first (mark_fault system m.inst m.place tokens) _ p.1 in
      let r = none_first (uncalled_mark system made m) (count_fault 1 before m) q.1 in
      let there = unfaulty (has_place system m.inst m.place) Name (tokens_fault system kind tokens) q.0 in
      let called = passes (is_called system made m.inst && tokens_are_called system made tokens) Name r.0 in
      let again =
      true_both (is_called system made m.inst) (tokens_are_called system made (tokens_held items))
      (and_left (is_called system made m.inst) (tokens_are_called system made tokens) called)
      (grouped_all (λ t. are_called system made t.named) m.items
      (and_right (is_called system made m.inst) (tokens_are_called system made tokens) called)) in
      let size = values_are items in
      let same = ap length (grouped_values m.items) in
      let third = first_reason (uncalled_mark system made (regrouped_mark m)) (count_fault 2 held (regrouped_mark m)) in
      ap (λ b. first_reason (cond b None (Some Form)) (first_reason (mark_fault system m.inst m.place (tokens_held items)) third)) (grouped_parted m.items)
      ∙ ap (λ b. first_reason (cond (not b) (Some Name) (tokens_fault system kind (tokens_held items))) third) there.0
      ∙ ap (λ o. first_reason o third) (tokens_again kind m.items there.1)
      ∙ ap (λ b. first_reason (cond b None (Some Name)) (count_fault 2 held (regrouped_mark m))) again
      ∙ ap (λ b. cond b (Some Many) None) (not_over most_told_values (held + size_of items) (omega (arith, few, size, same)))

  told_again : (m : Marked) → told_mark system (regrouped_mark m) ≡ told_mark system m
  told_again m =
      ap (λ vs. let line : MarkLine = record { inst = m.inst.number; net = net_said system m.inst; place = place_said system m.inst m.place; values = vs } in line)
      (grouped_values m.items)

  -- Marks, line by line.
  abbrev Again : List (Option LineSaid) → Type 0
  Again lines = (before held : ℕ) (marks : List MarkLine) → marks_from 1 system made before lines ≡ (marks, None) →
      held + length (values_in marks) ≤ most_told_values → marks_from 2 system made held (map regrouped lines) ≡ (marks, None)

  mark_on : (lines : List (Option LineSaid)) (m : Marked) (before held : ℕ) → Again lines →
      (o : Option Refusal) → fault_of_mark 1 system made before m ≡ o → (marks : List MarkLine) →
      mark_then (told_mark system m) o (marks_from 1 system made (counted_after 1 before m.items) lines) ≡ (marks, None) →
      held + length (values_in marks) ≤ most_told_values →
      marked_then 2 system made held (Some (regrouped_mark m)) (λ more. marks_from 2 system made more (map regrouped lines)) ≡ (marks, None)
  mark_on lines m before held more (Some refusal) fault marks e few = absurd (let end = ap (λ r. r.1) e in let no : ⊥ = cc in no)
  mark_on lines m before held more None fault marks e few =
      let read : List MarkLine × Option Refusal = marks_from 1 system made (counted_after 1 before m.items) lines in
      let are : told_mark system m ∷ read.0 ≡ marks = ap (λ r. r.0) e in
      let end : read.1 ≡ None = ap (λ r. r.1) e in
      let all : length (values_told m.items ++ values_in read.0) ≡ length (values_in marks) = ap (λ ms. length (values_in ms)) are in
      let both = length-append (values_told m.items) (values_in read.0) in
      let items : List Held = grouped m.items in
      let size = values_are items in
      let same = ap length (grouped_values m.items) in
      let again = regrouped_mark m in
      let rest = more (counted_after 1 before m.items) (held + size_of items) read.0 (ap (λ s. (read.0, s)) end) (omega (arith, few, all, both, size, same)) in
      ap (λ o. mark_then (told_mark system again) o (marks_from 2 system made (held + size_of items) (map regrouped lines)))
      (fine_again m before held fault (omega (arith, few, all, both)))
      ∙ ap (λ r. let next : List MarkLine × Option Refusal = (told_mark system again ∷ r.0, r.1) in next) rest
      ∙ ap (λ l. let next : List MarkLine × Option Refusal = (l ∷ read.0, None) in next) (told_again m)
      ∙ ap (λ ms. let next : List MarkLine × Option Refusal = (ms, None) in next) are

  by_mark : (lines : List (Option LineSaid)) (before held : ℕ) → Again lines → (o : Option Marked) → (marks : List MarkLine) →
      marked_then 1 system made before o (λ more. marks_from 1 system made more lines) ≡ (marks, None) →
      held + length (values_in marks) ≤ most_told_values →
      marked_then 2 system made held (option_map regrouped_mark o) (λ more. marks_from 2 system made more (map regrouped lines)) ≡ (marks, None)
  by_mark lines before held more None marks e few = absurd (let end = ap (λ r. r.1) e in let no : ⊥ = cc in no)
  by_mark lines before held more (Some m) marks e few = mark_on lines m before held more (fault_of_mark 1 system made before m) refl marks e few

  pub marks_again : (lines : List (Option LineSaid)) → Again lines
  marks_again [] before held marks e few = e
  marks_again (line ∷ lines) before held marks e few =
      ap (λ o. marked_then 2 system made held o (λ more. marks_from 2 system made more (map regrouped lines))) (marked_again line)
      ∙ by_mark lines before held (marks_again lines) (marked line) marks e few
