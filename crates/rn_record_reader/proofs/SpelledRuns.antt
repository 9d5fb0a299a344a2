-- The bytes that tell a run are its text, and its marks name what its firings made.
use Rattle.std.proofs.Common.{◌≡◌, ℕ, suc, ◌+◌, ◌≤◌, Bool, true, false, cond, List, [], ◌∷◌, ◌++◌, length, refl, sym, ap, ◌∙◌, subst, append_assoc, arith, take, drop}
use Rattle.std.specs.Prelude.{Option, Some, None, ◌&&◌, not, nat_eq, nat_lt, codes, count_by, bytes_eq, flat_map, is_some}
use Rattle.std.specs.List.{AllByRecursion, prefix_len}
use Rattle.std.proofs.lemmas.Bool.Decides.{nat_tests}
use Rattle.std.proofs.lemmas.Bool.{false≢true}
use Rattle.std.proofs.lemmas.List.Elements.{All-from_recursion}
use Rattle.std.proofs.lemmas.List.Sums.{sum_by-cons}
use Rattle.std.proofs.lemmas.Slice.Eq.{bytes_eq-Decides}
use Rattle.std.specs.Cmp.Lexicographic.{pointwise}
use Rattle.std.proofs.lemmas.List.{append-nil, take-append-drop}
use Rattle.std.proofs.lemmas.Option.{cond_some, same_Some}
use Rattle.rn_items.proofs.Bools.{and_right}
use Rattle.rn_value.specs.declared.value.Value.{Value}
use Rattle.rn_model.specs.declared.system.System.{System}
use Rattle.rn_model.specs.declared.binding.Binding.{Binding}
use Rattle.rn_model.specs.declared.log.Entry.{Entry}
use Rattle.rn_model.specs.declared.log.Entry.TheVariants.{Fire, End}
use Rattle.rn_model.specs.declared.log.FaultKind.{FaultKind}
use Rattle.rn_model.specs.declared.log.FaultKind.TheVariants.{Action, Instances}
use Rattle.rn_model.specs.declared.log.MarkLine.{MarkLine}
use Rattle.rn_model.specs.declared.log.Reason.{Reason}
use Rattle.rn_model.specs.Good.{Good}
use Rattle.rn_model.specs.Limits.{most_workers}
use Rattle.rn_model.specs.Runs as Run
use Rattle.rn_model.specs.Runs.{entries_of}
use Rattle.rn_model.specs.Systems.{empty_net}
use Rattle.rn_lines.specs.LineText.{LeadSaid, Token, LineSaid, IsLead, IsLine, ending_text}
use Rattle.rn_lines.specs.NodeText.{NodeSaid}
use Rattle.rn_lines.specs.declared.lines.Ending.{Ending}
use Rattle.rn_lines.specs.declared.lines.Ending.TheVariants as Ends
use Rattle.rn_lookup.specs.declared.refusal.Refusal.{Refusal}
use Rattle.rn_lookup.specs.declared.refusal.Refusal.TheVariants.{Form, Name, Step}
use Rattle.rn_lookup.specs.Found.{number_from, net_named, name_nets, are_called, node_is_called}
use Rattle.rn_record.specs.RecordText.{binding_text, end_text, entry_text, entries_text, fault_line, firing_lead, first_names, header_text, mark_text, names_after, names_at_end, names_past, printed_line}
use Rattle.rn_record_reader.specs.Bindings.{told_binding}
use Rattle.rn_record_reader.specs.Called.{BadAt, count_of_called, nodes_fault, stop_fault}
use Rattle.rn_record_reader.specs.Firings.{FiringRead, after_nodes, firing_by, firing_read, made_with, with_prints}
use Rattle.rn_record_reader.specs.Laws.{OneSpelling, TellsWholeRuns, ToldMarksAreNamed}
use Rattle.rn_record_reader.specs.Lines.{lines_in}
use Rattle.rn_record_reader.specs.Marks.{marks_from}
use Rattle.rn_record_reader.specs.Nodes.{is_step, Placed, Stop, binding_lines}
use Rattle.rn_record_reader.specs.Prints.{PrintsEnd, judged_print, print_by, print_fault, print_then, printed, prints_from}
use Rattle.rn_record_reader.specs.Runs.{Verdict, Opening, Tells, TellsAfter, bytes_after, first_line, first_made, after_fault, end_read, fault_by, fault_read, opening, opening_of, with_entry, with_marks}
use Rattle.rn_record_reader.specs.declared.role.Role.{Role}
use Rattle.rn_record_reader.specs.declared.role.Role.TheVariants.{Firing, Fault}
use Rattle.rn_record_reader.proofs.SpelledBindings.{binding_spelled, names_more, role_lead}
use Rattle.rn_record_reader.proofs.NumberedAgain.{other_path}
use Rattle.rn_record_reader.proofs.SpelledMarks.{MarksNamed, marks_spelled}
use Rattle.rn_record_reader.proofs.SpelledLines.{Spell, lead_text, lines_spelled}
use Rattle.rn_record_reader.proofs.SpelledNodes.{has_name, names_for, unfaulty, value_spelled}

-- Printed values.
module _ (system : System) (all : List ℕ) (step worker : ℕ) where
  abbrev lead : List ℕ
  lead = firing_lead step worker

  abbrev prints : List Value → List ℕ
  prints = flat_map (printed_line (names_for system all) lead)

  print_fine : (l : LeadSaid) (t : Token) → print_fault system all step worker l t ≡ None →
      (nat_eq l.worker worker ≡ true) × (are_called system all t.named ≡ true) × (is_step step l.step ≡ true)
  print_fine l t e =
      let third = cond (not (is_step step l.step)) (Some Step) None in
      let second = cond (not (name_nets system t.named && are_called system all t.named)) (Some Name) third in
      let a = unfaulty (nat_eq l.worker worker) Form second e in
      let b = unfaulty (name_nets system t.named && are_called system all t.named) Name third a.1 in
      let c = unfaulty (is_step step l.step) Step None b.1 in
      (a.0, and_right (name_nets system t.named) (are_called system all t.named) b.0, c.0)

  printed_is : (line : Option LineSaid) (x : LeadSaid × Token) → printed line ≡ Some x → line ≡ Some (LineSaid.prints x.0 x.1)
  printed_is (Some (LineSaid.prints l t)) x e = ap (λ p. Some (LineSaid.prints p.0 p.1)) (same_Some (l, t) x e)
  printed_is line x e = absurd (let no : ⊥ = cc in no)

  print_spelled : (l : LeadSaid) (t : Token) (lines : List (Option LineSaid)) (bytes : List ℕ) →
      print_fault system all step worker l t ≡ None → Spell (Some (LineSaid.prints l t) ∷ lines) bytes →
      (rest : List ℕ) × Spell lines rest × (bytes ≡ printed_line (names_for system all) lead t.value ++ rest)
  print_spelled l t lines bytes fine (text, rest, IsLine.prints {v = v} {named = named} {a = a} {b = b} is_lead is_value, is, spell) =
      let f = print_fine l t fine in
      let value = value_spelled system all v named b is_value f.1 in (
        rest,
        spell,
        is ∙ ap (λ x. (x ++ (62 ∷ 32 ∷ b)) ++ 10 ∷ rest) (lead_text step worker is_lead f.2 f.0)
            ∙ ap (λ x. (lead ++ (62 ∷ 32 ∷ x)) ++ 10 ∷ rest) value.1
            ∙ simp append_assoc,
      )

  abbrev Spells : List (Option LineSaid) → Type 0
  Spells lines = (outs : List Value) (left : List (Option LineSaid)) (bytes : List ℕ) →
      prints_from system all step worker lines ≡ (outs, PrintsEnd.over left) → Spell lines bytes →
      (rest : List ℕ) × Spell left rest × (bytes ≡ prints outs ++ rest)

  over_spelled : (lines left : List (Option LineSaid)) (outs : List Value) (bytes : List ℕ) →
      ◌≡◌ {A = List Value × PrintsEnd} ([], PrintsEnd.over lines) (outs, PrintsEnd.over left) → Spell lines bytes →
      (rest : List ℕ) × Spell left rest × (bytes ≡ prints outs ++ rest)
  over_spelled lines left outs bytes e spell =
      let none : [] ≡ outs = ap (λ r. r.0) e in
      let end = ap (λ r. r.1) e in
      let same : lines ≡ left = cc in
      (bytes, subst (λ ls. Spell ls bytes) same spell, ap (λ os. prints os ++ bytes) none)

  by_fault : (line : Option LineSaid) (lines : List (Option LineSaid)) (x : LeadSaid × Token) → line ≡ Some (LineSaid.prints x.0 x.1) →
      Spells lines → (o : Option Refusal) → print_fault system all step worker x.0 x.1 ≡ o →
      (outs : List Value) (left : List (Option LineSaid)) (bytes : List ℕ) →
      print_then (line ∷ lines) (print_by x.1 o) (prints_from system all step worker lines) ≡ (outs, PrintsEnd.over left) →
      Spell (line ∷ lines) bytes → (rest : List ℕ) × Spell left rest × (bytes ≡ prints outs ++ rest)
  by_fault line lines x is more (Some refusal) fault outs left bytes e spell =
      absurd (let end = ap (λ r. r.1) e in let no : ⊥ = cc in no)
  by_fault line lines x is more None fault outs left bytes e spell =
      let read : List Value × PrintsEnd = prints_from system all step worker lines in
      let are : x.1.value ∷ read.0 ≡ outs = ap (λ r. r.0) e in
      let end : read.1 ≡ PrintsEnd.over left = ap (λ r. r.1) e in
      let one = print_spelled x.0 x.1 lines bytes fault (subst (λ l. Spell (l ∷ lines) bytes) is spell) in
      let rest = more read.0 left one.0 (ap (λ s. (read.0, s)) end) one.1 in
      let line_text = printed_line (names_for system all) lead x.1.value in (
        rest.0,
        rest.1,
        one.2 ∙ ap (λ t. line_text ++ t) rest.2 ∙ sym (append_assoc line_text (prints read.0) rest.0)
            ∙ ap (λ os. prints os ++ rest.0) are,
      )

  by_print : (line : Option LineSaid) (lines : List (Option LineSaid)) → Spells lines → (o : Option (LeadSaid × Token)) →
      printed line ≡ o → (outs : List Value) (left : List (Option LineSaid)) (bytes : List ℕ) →
      print_then (line ∷ lines) (judged_print system all step worker o) (prints_from system all step worker lines) ≡ (outs, PrintsEnd.over left) →
      Spell (line ∷ lines) bytes → (rest : List ℕ) × Spell left rest × (bytes ≡ prints outs ++ rest)
  by_print line lines more None is outs left bytes e spell = over_spelled (line ∷ lines) left outs bytes e spell
  by_print line lines more (Some x) is outs left bytes e spell =
      by_fault line lines x (printed_is line x is) more (print_fault system all step worker x.0 x.1) refl outs left bytes e spell

  prints_spelled : (lines : List (Option LineSaid)) → Spells lines
  prints_spelled [] outs left bytes e spell = over_spelled [] left outs bytes e spell
  prints_spelled (line ∷ lines) outs left bytes e spell =
      by_print line lines (prints_spelled lines) (printed line) refl outs left bytes e spell

-- Where no line of a binding is bad, its nodes are whole and name what is there.
all_pass : {X : Type 0} (p : X → Bool) (xs : List X) → length xs ≤ prefix_len p xs → AllByRecursion (λ x. p x ≡ true) xs
all_pass p [] long = tt
all_pass p (x ∷ xs) long = by (p x) refl long (λ rest. all_pass p xs rest)
  where
    by : (b : Bool) → p x ≡ b → suc (length xs) ≤ cond b (1 + prefix_len p xs) 0 →
        (length xs ≤ prefix_len p xs → AllByRecursion (λ x. p x ≡ true) xs) → AllByRecursion (λ x. p x ≡ true) (x ∷ xs)
    by true e long more = (e, more (omega (arith, long)))
    by false e long more = absurd (let no : ⊥ = omega (arith, long) in no)

module _ (system : System) (all : List ℕ) where
  stop_fine : (count : ℕ) (stop : Stop) → stop_fault system all count stop ≡ None →
      (left : List (Option LineSaid)) × (stop ≡ Stop.whole left)
  stop_fine count (Stop.whole left) e = (left, refl)
  stop_fine count (Stop.late n) e = absurd (let no : ⊥ = cc in no)
  stop_fine count (Stop.refused r) e = absurd (let no : ⊥ = cc in no)

  nodes_fine : (read : List Placed × Stop) → nodes_fault system all read ≡ None →
      AllByRecursion (λ x. node_is_called system all x.said ≡ true) read.0
      × ((left : List (Option LineSaid)) × (read.1 ≡ Stop.whole left))
  nodes_fine read e = by (nat_lt (count_of_called system all read.0) (length read.0)) refl e
    where
      by : (b : Bool) → nat_lt (count_of_called system all read.0) (length read.0) ≡ b →
          cond b (Some (record { before = count_of_called system all read.0; refusal = Name })) (stop_fault system all (length read.0) read.1) ≡ None →
          AllByRecursion (λ x. node_is_called system all x.said ≡ true) read.0
          × ((left : List (Option LineSaid)) × (read.1 ≡ Stop.whole left))
      by true is e = absurd (let no : ⊥ = cc in no)
      by false is e =
          let long : length read.0 ≤ count_of_called system all read.0 = grind (arith, nat_tests) in
          (all_pass (λ x. node_is_called system all x.said) read.0 long, stop_fine (length read.0) read.1 e)

  -- where all nodes of a binding are read and are fine, so is its text
  pub fine_binding : (made : List ℕ) (role : Role) (lines : List (Option LineSaid)) (bytes : List ℕ) →
      all ≡ made_with system made (binding_lines system role lines) →
      nodes_fault system all (binding_lines system role lines) ≡ None → Spell lines bytes →
      (left : List (Option LineSaid)) × (rest : List ℕ) × ((binding_lines system role lines).1 ≡ Stop.whole left)
      × Spell left rest
      × (bytes ≡ binding_text system (names_for system made) (role_lead role)
      (told_binding system (length made) (binding_lines system role lines).0) ++ rest)
  fine_binding made role lines bytes is fault spell =
      let read : List Placed × Stop = binding_lines system role lines in
      let fine = nodes_fine read fault in
      let called = subst (λ m. AllByRecursion (λ x. node_is_called system m x.said ≡ true) read.0) is fine.0 in
      let spelled = binding_spelled system made role lines fine.1.0 read.0 bytes (ap (λ s. (read.0, s)) fine.1.1) called spell in
      (fine.1.0, spelled.0, fine.1.1, spelled.1, spelled.2)

-- Firings.
module _ (system : System) (made : List ℕ) (step worker : ℕ) where
  abbrev Read : List (Option LineSaid) → List Placed × Stop
  Read lines = binding_lines system (Firing step worker) lines

  abbrev Whole : List (Option LineSaid) → List ℕ
  Whole lines = made_with system made (Read lines)

  abbrev Spelled : Entry → List ℕ → List (Option LineSaid) → List ℕ → Type 0
  Spelled entry all rest bytes =
      (more : List ℕ) × Spell rest more × (bytes ≡ entry_text system (names_for system made) step entry ++ more)
      × (names_for system all ≡ names_past system (names_for system made) entry)
      × ((outs : List Value) × (b : Binding) × (entry ≡ Fire worker b outs))

  with_all : (lines left : List (Option LineSaid)) (bytes text_rest : List ℕ) (outs : List Value) (end : PrintsEnd)
      (entry : Entry) (all : List ℕ) (count : ℕ) (rest : List (Option LineSaid)) →
      prints_from system (Whole lines) step worker left ≡ (outs, end) →
      Spell left text_rest →
      bytes ≡ binding_text system (names_for system made) (firing_lead step worker) (told_binding system (length made) (Read lines).0) ++ text_rest →
      with_prints system made (Whole lines) worker (Read lines).0 (outs, end) ≡ FiringRead.fired entry all count rest →
      Spelled entry all rest bytes
  with_all lines left bytes text_rest outs (PrintsEnd.refused r) entry all count rest p spell is e = absurd (let no : ⊥ = cc in no)
  with_all lines left bytes text_rest outs (PrintsEnd.over ls) entry all count rest p spell is e =
      let b = told_binding system (length made) (Read lines).0 in
      let fired : Entry = Fire worker b outs in
      let names = names_for system made in
      let entry_is : fired ≡ entry = cc in
      let all_is : Whole lines ≡ all = cc in
      let rest_is : ls ≡ rest = cc in
      let spelled = prints_spelled system (Whole lines) step worker left outs ls text_rest p spell in
      let more_names = names_more system made (Read lines).0 in
      let text = binding_text system names (firing_lead step worker) b in (
        spelled.0,
        subst (λ r. Spell r spelled.0) rest_is spelled.1,
        is ∙ ap (λ t. text ++ t) spelled.2
            ∙ ap (λ ns. text ++ (flat_map (printed_line ns (firing_lead step worker)) outs ++ spelled.0)) (sym more_names)
            ∙ sym (append_assoc text (flat_map (printed_line (names_after system names b) (firing_lead step worker)) outs) spelled.0)
            ∙ ap (λ f. entry_text system names step f ++ spelled.0) entry_is,
        ap (names_for system) (sym all_is) ∙ sym more_names ∙ ap (names_past system names) entry_is,
        (outs, b, sym entry_is),
      )

  by_stop : (lines : List (Option LineSaid)) (bytes : List ℕ) (stop : Stop) (entry : Entry) (all : List ℕ) (count : ℕ) (rest : List (Option LineSaid)) →
      (Read lines).1 ≡ stop → nodes_fault system (Whole lines) (Read lines) ≡ None → Spell lines bytes →
      after_nodes system made (Whole lines) step worker (Read lines).0 stop ≡ FiringRead.fired entry all count rest →
      Spelled entry all rest bytes
  by_stop lines bytes (Stop.late n) entry all count rest is fault spell e = absurd (let no : ⊥ = cc in no)
  by_stop lines bytes (Stop.refused r) entry all count rest is fault spell e = absurd (let no : ⊥ = cc in no)
  by_stop lines bytes (Stop.whole left) entry all count rest is fault spell e =
      let fine = fine_binding system (Whole lines) made (Firing step worker) lines bytes refl fault spell in
      let stops = sym is ∙ fine.2 in
      let same : fine.0 ≡ left = cc in
      let read : List Value × PrintsEnd = prints_from system (Whole lines) step worker left in
      with_all lines left bytes fine.1 read.0 read.1 entry all count rest refl (subst (λ ls. Spell ls fine.1) same fine.3) fine.4 e

  firing_spelled : (lines : List (Option LineSaid)) (bytes : List ℕ) (entry : Entry) (all : List ℕ) (count : ℕ) (rest : List (Option LineSaid)) →
      firing_read system made step worker lines ≡ FiringRead.fired entry all count rest → Spell lines bytes →
      Spelled entry all rest bytes
  firing_spelled lines bytes entry all count rest e spell = by (nodes_fault system (Whole lines) (Read lines)) refl e
    where
      by : (o : Option BadAt) → nodes_fault system (Whole lines) (Read lines) ≡ o →
          firing_by system made (Whole lines) step worker (Read lines) o ≡ FiringRead.fired entry all count rest → Spelled entry all rest bytes
      by (Some b) is e = absurd (let no : ⊥ = cc in no)
      by None is e = by_stop lines bytes (Read lines).1 entry all count rest refl is spell e

-- Ends.
module _ (format : ℕ) (system : System) (made : List ℕ) where
  abbrev Ended : Ending → List ℕ → List Entry → List MarkLine → Type 0
  Ended ending bytes es ms =
      (reason : Reason) × (es ≡ End reason ∷ [])
      × (ending_text ending ++ 10 ∷ bytes
      ≡ end_text system (names_for system made) reason ++ flat_map (mark_text format system (names_for system made)) ms)
      × MarksNamed (names_for system made) ms

  -- the end and the marks that lines tell
  marks_told : (reason : Reason) (line : ℕ) (lines : List (Option LineSaid)) (bytes : List ℕ) (es : List Entry) (ms : List MarkLine) →
      with_marks reason line (marks_from format system made 0 lines) ≡ Verdict.tells es ms → Spell lines bytes →
      (es ≡ End reason ∷ []) × (bytes ≡ flat_map (mark_text format system (names_for system made)) ms)
      × MarksNamed (names_for system made) ms
  marks_told reason line lines bytes es ms e spell = by (marks_from format system made 0 lines).0 (marks_from format system made 0 lines).1 refl e
    where
      by : (marks : List MarkLine) (o : Option Refusal) → marks_from format system made 0 lines ≡ (marks, o) →
          with_marks reason line (marks, o) ≡ Verdict.tells es ms →
          (es ≡ End reason ∷ []) × (bytes ≡ flat_map (mark_text format system (names_for system made)) ms)
          × MarksNamed (names_for system made) ms
      by marks (Some r) is e = absurd (let no : ⊥ = cc in no)
      by marks None is e =
          let entries : End reason ∷ [] ≡ es = cc in
          let same : marks ≡ ms = cc in
          let spelled = marks_spelled format system made lines 0 marks bytes is spell in (
            sym entries,
            spelled.0 ∙ ap (flat_map (mark_text format system (names_for system made))) same,
            subst (MarksNamed (names_for system made)) same spelled.1,
          )

  plain_end : (ending : Ending) (reason : Reason) (line : ℕ) (lines : List (Option LineSaid)) (bytes : List ℕ) (es : List Entry) (ms : List MarkLine) →
      ending_text ending ++ 10 ∷ [] ≡ end_text system (names_for system made) reason →
      with_marks reason line (marks_from format system made 0 lines) ≡ Verdict.tells es ms → Spell lines bytes → Ended ending bytes es ms
  plain_end ending reason line lines bytes es ms text e spell =
      let told = marks_told reason line lines bytes es ms e spell in (
        reason,
        told.0,
        sym (append_assoc (ending_text ending) (10 ∷ []) bytes) ∙ ap (λ t. t ++ bytes) text
            ∙ ap (λ t. end_text system (names_for system made) reason ++ t) told.1,
        told.2,
      )

  fault_end : (ending : Ending) (cause : FaultKind) (line : ℕ) (lines : List (Option LineSaid)) (bytes : List ℕ) (es : List Entry) (ms : List MarkLine) →
      ending_text ending ++ 10 ∷ [] ≡ fault_line cause →
      fault_read format system made line cause lines ≡ Verdict.tells es ms → Spell lines bytes → Ended ending bytes es ms
  fault_end ending cause line lines bytes es ms text e spell = by (nodes_fault system whole read) refl e
    where
      read : List Placed × Stop
      read = binding_lines system Fault lines

      whole : List ℕ
      whole = made_with system made read

      by : (o : Option BadAt) → nodes_fault system whole read ≡ o → fault_by format system made line cause read o ≡ Verdict.tells es ms → Ended ending bytes es ms
      by (Some b) is e = absurd (let no : ⊥ = cc in no)
      by None is e =
          let fine = fine_binding system whole made Fault lines bytes refl is spell in
          let b = told_binding system (length made) read.0 in
          let names = names_for system made in
          let reason : Reason = Reason.Fault cause b in
          let after : with_marks reason (line + length read.0) (marks_from format system made 0 fine.0) ≡ Verdict.tells es ms =
          ap (after_fault format system made line cause read.0) (sym fine.2) ∙ e in
          let told = marks_told reason (line + length read.0) fine.0 fine.1 es ms after fine.3 in
          let lines_text = binding_text system names (codes "! ") b in (
            reason,
            told.0,
            sym (append_assoc (ending_text ending) (10 ∷ []) bytes) ∙ ap (λ t. t ++ bytes) text
                ∙ ap (λ t. fault_line cause ++ t) (fine.4 ∙ ap (λ t. lines_text ++ t) told.1)
                ∙ sym (append_assoc (fault_line cause) lines_text (flat_map (mark_text format system names) ms)),
            told.2,
          )

  end_spelled : (ending : Ending) (line : ℕ) (lines : List (Option LineSaid)) (bytes : List ℕ) (es : List Entry) (ms : List MarkLine) →
      end_read format system made line ending lines ≡ Verdict.tells es ms → Spell lines bytes → Ended ending bytes es ms
  end_spelled Ends.Dead line lines bytes es ms e spell = plain_end Ends.Dead Reason.Dead line lines bytes es ms refl e spell
  end_spelled Ends.Steps line lines bytes es ms e spell = plain_end Ends.Steps Reason.Steps line lines bytes es ms refl e spell
  end_spelled Ends.Memory line lines bytes es ms e spell = plain_end Ends.Memory Reason.Memory line lines bytes es ms refl e spell
  end_spelled Ends.ActionFault line lines bytes es ms e spell = fault_end Ends.ActionFault Action line lines bytes es ms refl e spell
  end_spelled Ends.InstancesFault line lines bytes es ms e spell = fault_end Ends.InstancesFault Instances line lines bytes es ms refl e spell

-- What begins at a line.
ends_with : (line : Option LineSaid) (ending : Ending) → opening line ≡ Opening.ending ending → line ≡ Some (LineSaid.ends ending)
ends_with (Some (LineSaid.ends e)) ending is = let same : e ≡ ending = cc in ap (λ x. Some (LineSaid.ends x)) same
ends_with line ending is = absurd (let no : ⊥ = cc in no)

end_line : (ending : Ending) (lines : List (Option LineSaid)) (bytes : List ℕ) → opening_of lines ≡ Opening.ending ending → Spell lines bytes →
    (rest : List ℕ) × Spell (drop 1 lines) rest × (bytes ≡ ending_text ending ++ 10 ∷ rest)
end_line ending [] bytes is spell = absurd (let no : ⊥ = cc in no)
end_line ending (line ∷ lines) bytes is spell = text (subst (λ l. Spell (l ∷ lines) bytes) (ends_with line ending is) spell)
  where
    text : Spell (Some (LineSaid.ends ending) ∷ lines) bytes → (rest : List ℕ) × Spell lines rest × (bytes ≡ ending_text ending ++ 10 ∷ rest)
    text (t, rest, IsLine.ends, whole, spell) = (rest, spell, whole)

-- One entry more.
pub entries_more : (entry : Entry) (v : Verdict) (es : List Entry) (ms : List MarkLine) → with_entry entry v ≡ Verdict.tells es ms →
    (others : List Entry) × (v ≡ Verdict.tells others ms) × (es ≡ entry ∷ others)
entries_more entry (Verdict.tells others marks) es ms e =
    let entries : entry ∷ others ≡ es = cc in
    let same : marks ≡ ms = cc in
    (others, ap (Verdict.tells others) same, sym entries)
entries_more entry (Verdict.bad line r) es ms e = absurd (let no : ⊥ = cc in no)

-- The text of a run, after some instances were made.
abbrev pub run_text : ℕ → System → List (List ℕ) → ℕ → List Entry → List MarkLine → List ℕ
run_text format system names step es ms =
    entries_text system names step es ++ flat_map (mark_text format system (names_at_end system names es)) ms

-- bytes are the text of a run, whose marks name instances that have names at its end
abbrev IsRun : ℕ → System → List (List ℕ) → ℕ → List Entry → List MarkLine → List ℕ → Type 0
IsRun format system names step es ms bytes =
    (bytes ≡ run_text format system names step es ms) × MarksNamed (names_at_end system names es) ms

run_spelled : (format : ℕ) (system : System) (made : List ℕ) (step line : ℕ) (lines : List (Option LineSaid)) (v : Verdict) →
    Tells format system made step line lines v → (es : List Entry) (ms : List MarkLine) (bytes : List ℕ) → v ≡ Verdict.tells es ms →
    Spell lines bytes → IsRun format system (names_for system made) step es ms bytes
run_spelled format system made step line lines v (Tells.stray p) es ms bytes e spell = absurd (let no : ⊥ = cc in no)
run_spelled format system made step line lines v (Tells.broken p r) es ms bytes e spell = absurd (let no : ⊥ = cc in no)
run_spelled format system made step line lines v (Tells.ended {e = ending} p) es ms bytes e spell =
    let first = end_line ending lines bytes p spell in
    let ended = end_spelled format system made ending (line + 1) (drop 1 lines) first.0 es ms e first.1 in
    let names = names_for system made in
    let marks = flat_map (mark_text format system names) ms in
    let text : bytes ≡ run_text format system names step (End ended.0 ∷ []) ms =
    first.2 ∙ ended.2
    ∙ ap (λ t. t ++ marks) (sym (append-nil (end_text system names ended.0))) in
    subst (λ xs. IsRun format system names step xs ms bytes) (sym ended.1) (text, ended.3)
run_spelled format system made step line lines v (Tells.fired {all = all} {worker = worker} {count = count} {rest = rest} {entry = entry} {v = w} p r t) es ms bytes e spell =
    let more = entries_more entry w es ms e in
    let one = firing_spelled system made step worker lines bytes entry all count rest r spell in
    let later = run_spelled format system all (step + 1) (line + count) rest w t more.0 ms one.0 more.1 one.1 in
    let names = names_for system made in
    let text : bytes ≡ run_text format system names step (entry ∷ more.0) ms =
    one.2
    ∙ ap (λ x. entry_text system names step entry ++ x) later.0
    ∙ ap (λ ns. entry_text system names step entry ++ run_text format system ns (step + 1) more.0 ms) one.3
    ∙ sym (append_assoc (entry_text system names step entry) (entries_text system (names_past system names entry) (step + 1) more.0)
    (flat_map (mark_text format system (names_at_end system (names_past system names entry) more.0)) ms)) in
    subst (λ xs. IsRun format system names step xs ms bytes) (sym more.2)
    (text, subst (λ ns. MarksNamed (names_at_end system ns more.0) ms) one.3 later.1)

-- There is a net with a name that is counted.
none_named : {X : Type 0} (name : X → List ℕ) (word : List ℕ) (k : ℕ) (xs : List X) → is_some (number_from name k xs word) ≡ false →
    count_by (λ x. pointwise nat_eq (name x) word) xs ≡ 0
none_named name word k [] none = refl
none_named {X = X} name word k (x ∷ xs) none = by (bytes_eq (name x) word) refl none (λ rest. none_named name word (k + 1) xs rest)
  where
    test : X → ℕ
    test y = cond (pointwise nat_eq (name y) word) 1 0

    by : (b : Bool) → bytes_eq (name x) word ≡ b → is_some (cond b (Some k) (number_from name (k + 1) xs word)) ≡ false →
        (is_some (number_from name (k + 1) xs word) ≡ false → count_by (λ x. pointwise nat_eq (name x) word) xs ≡ 0) →
        count_by (λ x. pointwise nat_eq (name x) word) (x ∷ xs) ≡ 0
    by true e none more = absurd (false≢true (sym none))
    by false e none more =
        let apart : pointwise nat_eq (name x) word ≡ false =
        other_path (name x) word (λ same. false≢true (sym e ∙ (bytes_eq-Decides (name x) word).1 same)) in
        let here : ◌≡◌ {A = ℕ} (cond (pointwise nat_eq (name x) word) 1 0) 0 = ap (λ b. cond b 1 0) apart in
        let rest = more none in
        let both = sum_by-cons (λ y. cond (pointwise nat_eq (name y) word) 1 0) x xs in
        omega (arith, here, rest, both)

pub main_there : (system : System) → Good system → is_some (net_named system (codes "main")) ≡ true
main_there system good = by (is_some (net_named system (codes "main"))) refl
  where
    by : (b : Bool) → is_some (net_named system (codes "main")) ≡ b → b ≡ true
    by true e = refl
    by false e =
        let none = none_named (λ net. net.name) (codes "main") 0 system.nets e in
        let one = good.main in
        absurd (let no : ⊥ = omega (arith, none, one) in no)

-- the lines after the name of the format
lines_text : (format : ℕ) (system : System) (line : ℕ) (bytes : List ℕ) (es : List Entry) (ms : List MarkLine) → Good system →
    Tells format system (first_made system) 1 line (lines_in bytes) (Verdict.tells es ms) → IsRun format system first_names 1 es ms bytes
lines_text format system line bytes es ms good told =
    let names : names_for system (first_made system) ≡ first_names =
    ap (λ name. name ∷ []) (has_name (λ net. net.name) (codes "main") system.nets empty_net (main_there system good)) in
    subst (λ ns. IsRun format system ns 1 es ms bytes) names
    (run_spelled format system (first_made system) 1 line (lines_in bytes) (Verdict.tells es ms) told es ms bytes refl (lines_spelled bytes))

-- the name of the format
named : (front bytes rest : List ℕ) → bytes_after front bytes ≡ Some rest → bytes ≡ front ++ rest
named front bytes rest e =
    let start : List ℕ = take (length front) bytes in
    let tests = cond_some (bytes_eq start front) (drop (length front) bytes) rest e in
    sym (take-append-drop (length front) bytes)
    ∙ ap (λ f. f ++ drop (length front) bytes) ((bytes_eq-Decides start front).0 tests.0)
    ∙ ap (λ r. front ++ r) tests.1

-- what is told after it
pub told_after : (format : ℕ) (system : System) (o : Option (List ℕ)) (es : List Entry) (ms : List MarkLine) →
    TellsAfter format system o (Verdict.tells es ms) →
    (rest : List ℕ) × (o ≡ Some rest) × Tells format system (first_made system) 1 (first_line format) (lines_in rest) (Verdict.tells es ms)
told_after format system (Some rest) es ms told = (rest, refl, told)
told_after format system None es ms told = absurd (let no : ⊥ = cc in no)

pub one_spelling : OneSpelling
one_spelling system format bytes es ms good is told =
    let after = told_after format system (bytes_after (header_text format) bytes) es ms told in
    let header = header_text format in
    let entries = entries_text system first_names 1 es in
    let marks = flat_map (mark_text format system (names_at_end system first_names es)) ms in
    named header bytes after.0 after.1
    ∙ ap (λ t. header ++ t) (lines_text format system (first_line format) after.0 es ms good after.2).0
    ∙ sym (append_assoc header entries marks)

pub marks_named : ToldMarksAreNamed
marks_named system format bytes es ms good is told =
    let after = told_after format system (bytes_after (header_text format) bytes) es ms told in
    (lines_text format system (first_line format) after.0 es ms good after.2).1

-- Whole runs.
fires_with : (line : Option LineSaid) (worker : ℕ) → opening line ≡ Opening.firing worker →
    (l : LeadSaid) × (n : NodeSaid) × (line ≡ Some (LineSaid.fires l n)) × (l.worker ≡ worker)
fires_with (Some (LineSaid.fires l n)) worker is = let same : l.worker ≡ worker = cc in (l, n, refl, same)
fires_with line worker is = absurd (let no : ⊥ = cc in no)

abbrev HasWorker : ℕ → Type 0
HasWorker worker = (1 ≤ worker) × (worker ≤ most_workers)

lead_worker : {l : LeadSaid} {a : List ℕ} → IsLead l a → HasWorker l.worker
lead_worker (IsLead.lead step low high number) = (low, high)

first_worker : (worker : ℕ) (lines : List (Option LineSaid)) (bytes : List ℕ) → opening_of lines ≡ Opening.firing worker → Spell lines bytes →
    HasWorker worker
first_worker worker [] bytes is spell = absurd (let no : ⊥ = cc in no)
first_worker worker (line ∷ lines) bytes is spell =
    let from = fires_with line worker is in
    subst HasWorker from.3 (by from.0 from.1 (subst (λ l. Spell (l ∷ lines) bytes) from.2 spell))
  where
    by : (l : LeadSaid) (n : NodeSaid) → Spell (Some (LineSaid.fires l n) ∷ lines) bytes → HasWorker l.worker
    by l n (text, rest, IsLine.fires is_lead is_node, whole, more) = lead_worker is_lead

abbrev IsWhole : List Entry → Type 0
IsWhole es = (fired : List Run.Firing) × (reason : Reason) × (es ≡ entries_of fired (Some reason))
    × AllByRecursion (λ f. HasWorker f.worker) fired

run_whole : (format : ℕ) (system : System) (made : List ℕ) (step line : ℕ) (lines : List (Option LineSaid)) (v : Verdict) →
    Tells format system made step line lines v → (es : List Entry) (ms : List MarkLine) (bytes : List ℕ) → v ≡ Verdict.tells es ms →
    Spell lines bytes → IsWhole es
run_whole format system made step line lines v (Tells.stray p) es ms bytes e spell = absurd (let no : ⊥ = cc in no)
run_whole format system made step line lines v (Tells.broken p r) es ms bytes e spell = absurd (let no : ⊥ = cc in no)
run_whole format system made step line lines v (Tells.ended {e = ending} p) es ms bytes e spell =
    let first = end_line ending lines bytes p spell in
    let ended = end_spelled format system made ending (line + 1) (drop 1 lines) first.0 es ms e first.1 in
    ([], ended.0, ended.1, tt)
run_whole format system made step line lines v (Tells.fired {all = all} {worker = worker} {count = count} {rest = rest} {entry = entry} {v = w} p r t) es ms bytes e spell =
    let more = entries_more entry w es ms e in
    let one = firing_spelled system made step worker lines bytes entry all count rest r spell in
    let later = run_whole format system all (step + 1) (line + count) rest w t more.0 ms one.0 more.1 one.1 in
    let f : Run.Firing = record { worker = worker; binding = one.4.1; outs = one.4.0 } in (
      f ∷ later.0,
      later.1,
      more.2 ∙ ap (λ x. x ∷ more.0) one.4.2 ∙ ap (λ xs. Fire worker one.4.1 one.4.0 ∷ xs) later.2,
      (first_worker worker lines bytes p spell, later.3),
    )

pub whole_runs : TellsWholeRuns
whole_runs system format bytes es ms is told =
    let after = told_after format system (bytes_after (header_text format) bytes) es ms told in
    let whole =
    run_whole format system (first_made system) 1 (first_line format) (lines_in after.0) (Verdict.tells es ms) after.2 es ms after.0 refl (lines_spelled after.0) in
    (whole.0, whole.1, whole.2, All-from_recursion (λ f. HasWorker f.worker) whole.0 whole.3)
