-- The bytes that tell marks are their text, whose values name what firings made.
use Rattle.std.proofs.Common.{◌≡◌, ℕ, ◌<◌, inl, inr, Bool, true, false, cond, List, [], ◌∷◌, ◌++◌, length, map, replicate, refl, sym, ap, ◌∙◌, subst, append_assoc, arith}
use Rattle.std.specs.Prelude.{All, Option, Some, None, ◌&&◌, not, nat_eq, flat_map, slice_get, unwrap_or, is_some}
use Rattle.std.specs.Option.{option_map_or}
use Rattle.std.proofs.lemmas.Bool.{eqb-true, false≢true}
use Rattle.std.proofs.lemmas.List.Elements.{All-append, All-cons, All-nil, All-replicate}
use Rattle.std.proofs.lemmas.Option.{same_Some}
use borrow.Author.Tests.{ne_eqb}
use Rattle.rn_items.proofs.Bools.{and_left, and_right}
use Rattle.rn_value.specs.declared.value.InstRef.TheVariants.{Old}
use Rattle.rn_value.specs.declared.value.Kind.TheVariants as Kind
use Rattle.rn_value.specs.declared.value.Value.{Value}
use Rattle.rn_value.specs.Names.{AreNamed}
use Rattle.rn_value.specs.Text.{numeral, value_text}
use Rattle.rn_value.proofs.Numerals.{IsNumeral-first}
use Rattle.rn_model.specs.declared.system.System.{System}
use Rattle.rn_model.specs.declared.system.Net.{Net}
use Rattle.rn_model.specs.declared.system.Place.{Place}
use Rattle.rn_model.specs.declared.log.MarkLine.{MarkLine}
use Rattle.rn_model.specs.declared.repeats.Repeat.{Repeat}
use Rattle.rn_model.specs.Lists.{same_value}
use Rattle.rn_model.specs.NodeText.{instance_text}
use Rattle.rn_model.specs.Repeats.{values_of, repeats_of, BeginsOtherwise, AreParted}
use Rattle.rn_model.specs.Systems.{net_at, empty_net}
use Rattle.rn_model.proofs.AskedValues.{same_itself}
use Rattle.rn_model.proofs.RepeatedValues.{parted_again}
use Rattle.rn_lines.specs.LineText.{Held, IsCount, AreItems, IsLine, LineSaid, count_of, times_of}
use Rattle.rn_lines.proofs.Counts.{written_count}
use Rattle.rn_lookup.specs.declared.refusal.Refusal.{Refusal}
use Rattle.rn_lookup.specs.declared.refusal.Refusal.TheVariants.{Form, Name}
use Rattle.rn_lookup.specs.Faults.{has_place, mark_fault, tokens_fault}
use Rattle.rn_lookup.specs.Found.{names_net, net_said, place_said, place_named, is_called, are_called, tokens_are_called, tokens_held}
use Rattle.rn_record.specs.RecordText.{count_text, item_text, mark_text, place_name, token_text, tokens_text}
use Rattle.rn_record_reader.specs.Marks.{Marked, marked, held_values, values_told, told_mark, are_single, parted_from, are_parted, fits_format, counted_after, first_reason, format_fault, uncalled_mark, count_fault, fault_of_mark, mark_then, marked_then, marks_from}
use Rattle.rn_record_reader.proofs.SpelledLines.{Spell}
use Rattle.rn_record_reader.proofs.SpelledNodes.{has_name, instance_spelled, names_for, unfaulty, value_spelled}

abbrev no_place : Place
no_place = record { name = []; kind = Kind.Tuple []; initial = []; max = None }

place_by : (o : Option Place) → option_map_or (λ p. p.name) o [] ≡ (unwrap_or o no_place).name
place_by None = refl
place_by (Some p) = refl

-- Counts.
none_written : {times text : List ℕ} → IsCount times text → nat_eq (length times) 0 ≡ true → (text ≡ []) × (times ≡ [])
none_written IsCount.once none = (refl, refl)
none_written (IsCount.often {times = times} low p) none =
    let f = IsNumeral-first p in
    let long = ap length f.2 in
    let short = eqb-true (length times) 0 none in
    absurd (let no : ⊥ = omega (arith, long, short) in no)

count_spelled : {times text : List ℕ} → IsCount times text → text ≡ count_text (count_of times)
count_spelled {times} {text} counts = elim (written_count counts) as (λ _. text ≡ count_text (count_of times)) [
  | inl once ↦ once.1 ∙ ap count_text (sym once.0)
  | inr often ↦
      let low = often.0 in
      let apart : nat_eq (count_of times) 1 ≡ false = ne_eqb (count_of times) 1 (λ e. omega (arith, low, e)) in
      often.1 ∙ ap (λ b. cond b [] (42 ∷ numeral (count_of times))) (sym apart)
]

pub some_times : {times text : List ℕ} → IsCount times text → 0 < count_of times
some_times {times} {text} counts = elim (written_count counts) as (λ _. 0 < count_of times) [
  | inl once ↦ let e = once.0 in omega (arith, e)
  | inr often ↦ let low = often.0 in omega (arith, low)
]

-- Items, as values with how often they stand there.
abbrev pub repeat_of : Held → Repeat
repeat_of h = record { value = h.token.value; count = times_of h }

pub repeats_values : (items : List Held) → values_of (map repeat_of items) ≡ values_told items
repeats_values [] = refl
repeats_values (h ∷ hs) = ap (λ vs. held_values h ++ vs) (repeats_values hs)

begins_otherwise : (v : Value) (hs : List Held) → parted_from v hs ≡ true → BeginsOtherwise v (map repeat_of hs)
begins_otherwise v [] e = tt
begins_otherwise v (h ∷ hs) e = λ same.
    let apart : not (same_value v h.token.value) ≡ true = and_left (not (same_value v h.token.value)) (parted_from h.token.value hs) e in
    let is : same_value v h.token.value ≡ true = ap (same_value v) (sym same) ∙ same_itself v in
    false≢true (sym (ap not is) ∙ apart)

still_parted : (v : Value) (hs : List Held) → parted_from v hs ≡ true → are_parted hs ≡ true
still_parted v [] e = refl
still_parted v (h ∷ hs) e = and_right (not (same_value v h.token.value)) (parted_from h.token.value hs) e

parted_items : {items : List Held} {a : List ℕ} → AreItems items a → are_parted items ≡ true → AreParted (map repeat_of items)
parted_items AreItems.none e = tt
parted_items (AreItems.some {v = v} {items = items} is counts others) e =
    (some_times counts, begins_otherwise v items e, parted_items others (still_parted v items e))

-- Reasons.
pub none_first : (o more : Option Refusal) → first_reason o more ≡ None → (o ≡ None) × (more ≡ None)
none_first (Some refusal) more e = absurd (let no : ⊥ = cc in no)
none_first None more e = (refl, e)

pub passes : (b : Bool) (refusal : Refusal) → cond b None (Some refusal) ≡ None → b ≡ true
passes true refusal e = refl
passes false refusal e = absurd (let no : ⊥ = cc in no)

-- the values of marks name instances that have these names
abbrev pub MarksNamed : List (List ℕ) → List MarkLine → Type 0
MarksNamed names marks = All (λ line. All (AreNamed names) line.values) marks

module _ (format : ℕ) (system : System) (all : List ℕ) where
  abbrev names : List (List ℕ)
  names = names_for system all

  abbrev marks_text : List MarkLine → List ℕ
  marks_text = flat_map (mark_text format system names)

  singles_spelled : {items : List Held} {a : List ℕ} → AreItems items a → tokens_are_called system all (tokens_held items) ≡ true → are_single items ≡ true →
      a ≡ flat_map (token_text names) (values_told items)
  singles_spelled AreItems.none called single = refl
  singles_spelled (AreItems.some {text = text} {count = count} {rest = rest} {times = times} {v = v} {named = named} {items = items} is counts others) called single =
      let first = value_spelled system all v named text is (and_left (are_called system all named) (tokens_are_called system all (tokens_held items)) called) in
      let later = singles_spelled others (and_right (are_called system all named) (tokens_are_called system all (tokens_held items)) called)
      (and_right (nat_eq (length times) 0) (are_single items) single) in
      let none = none_written counts (and_left (nat_eq (length times) 0) (are_single items) single) in
      ap (λ t. 32 ∷ (t ++ (count ++ rest))) first.1
      ∙ ap (λ c. 32 ∷ (value_text v names ++ (c ++ rest))) none.0
      ∙ ap (λ r. 32 ∷ (value_text v names ++ r)) later
      ∙ ap (λ ts. flat_map (token_text names) (replicate (count_of ts) v ++ values_told items)) (sym none.1)

  items_spelled : {items : List Held} {a : List ℕ} → AreItems items a → tokens_are_called system all (tokens_held items) ≡ true →
      a ≡ flat_map (item_text names) (map repeat_of items)
  items_spelled AreItems.none called = refl
  items_spelled (AreItems.some {text = text} {count = count} {rest = rest} {times = times} {v = v} {named = named} {items = items} is counts others) called =
      let first = value_spelled system all v named text is (and_left (are_called system all named) (tokens_are_called system all (tokens_held items)) called) in
      let later = items_spelled others (and_right (are_called system all named) (tokens_are_called system all (tokens_held items)) called) in
      let written = value_text v names in
      let number = count_text (count_of times) in
      let more = flat_map (item_text names) (map repeat_of items) in
      ap (λ t. 32 ∷ (t ++ (count ++ rest))) first.1
      ∙ ap (λ c. 32 ∷ (written ++ (c ++ rest))) (count_spelled counts)
      ∙ ap (λ r. 32 ∷ (written ++ (number ++ r))) later
      ∙ ap (λ t. 32 ∷ t) (sym (append_assoc written number more))

  tokens_spelled : {items : List Held} {a : List ℕ} → AreItems items a → tokens_are_called system all (tokens_held items) ≡ true → fits_format format items ≡ true →
      a ≡ tokens_text format names (values_told items)
  tokens_spelled {items} {a} are called fits = by (nat_eq format 1) fits
    where
      by : (first : Bool) → cond first (are_single items) (are_parted items) ≡ true →
          a ≡ cond first (flat_map (token_text names) (values_told items)) (flat_map (item_text names) (repeats_of (values_told items)))
      by true fits = singles_spelled are called fits
      by false fits =
          items_spelled are called
          ∙ ap (flat_map (item_text names)) (sym (parted_again (map repeat_of items) (parted_items are fits)) ∙ ap repeats_of (repeats_values items))

  values_named : {items : List Held} {a : List ℕ} → AreItems items a → tokens_are_called system all (tokens_held items) ≡ true →
      All (AreNamed names) (values_told items)
  values_named AreItems.none called = All-nil (AreNamed names)
  values_named (AreItems.some {text = text} {times = times} {v = v} {named = named} {items = items} is counts others) called =
      let first = value_spelled system all v named text is (and_left (are_called system all named) (tokens_are_called system all (tokens_held items)) called) in
      let later = values_named others (and_right (are_called system all named) (tokens_are_called system all (tokens_held items)) called) in
      All-append (AreNamed names) (replicate (count_of times) v) (values_told items)
      (All-replicate (AreNamed names) (count_of times) v first.0) later

  marked_is : (line : Option LineSaid) (m : Marked) → marked line ≡ Some m → line ≡ Some (LineSaid.holds m.inst m.place m.items)
  marked_is (Some (LineSaid.holds inst place items)) m e =
      ap (λ m. Some (LineSaid.holds m.inst m.place m.items)) (same_Some (record { inst = inst; place = place; items = items }) m e)
  marked_is line m e = absurd (let no : ⊥ = cc in no)

  mark_spelled : (m : Marked) (held : ℕ) (lines : List (Option LineSaid)) (bytes : List ℕ) →
      fault_of_mark format system all held m ≡ None → Spell (Some (LineSaid.holds m.inst m.place m.items) ∷ lines) bytes →
      (rest : List ℕ) × Spell lines rest × (bytes ≡ mark_text format system names (told_mark system m) ++ rest)
      × All (AreNamed names) (values_told m.items)
  mark_spelled m held lines bytes fine (text, rest, IsLine.holds {inst = inst} {place = place} {a = a} {b = b} {h = h} {items = items} is_inst is_name are, is, spell) =
      let tokens = tokens_held (h ∷ items) in
      let third = first_reason (uncalled_mark system all m) (count_fault format held m) in
      let second = first_reason (mark_fault system inst place tokens) third in
      let p = none_first (format_fault format m) second fine in
      let q = none_first (mark_fault system inst place tokens) third p.1 in
      let r = none_first (uncalled_mark system all m) (count_fault format held m) q.1 in
      let fits = passes (fits_format format (h ∷ items)) Form p.0 in
      let called = passes (is_called system all inst && tokens_are_called system all tokens) Name r.0 in
      let net : Net = net_at system (net_said system inst) in
      let there = unfaulty (has_place system inst place) Name (tokens_fault system _ tokens) q.0 in
      let net_is : net.name ≡ inst.name =
      has_name (λ net. net.name) inst.name system.nets empty_net (and_left (names_net system inst) (is_some (place_named net place)) there.0) in
      let place_is : place_name net (place_said system inst place) ≡ place =
      place_by (slice_get net.places (place_said system inst place))
      ∙ has_name (λ p. p.name) place net.places no_place (and_right (names_net system inst) (is_some (place_named net place)) there.0) in
      let tokens_called = and_right (is_called system all inst) (tokens_are_called system all tokens) called in
      let values = tokens_spelled are tokens_called fits in
      let written = tokens_text format names (values_told (h ∷ items)) in (
        rest,
        spell,
        is
            ∙ ap (λ x. (x ++ (46 ∷ (place ++ b))) ++ 10 ∷ rest) (instance_spelled is_inst)
            ∙ ap (λ x. (instance_text inst.name (Old inst.number) ++ (46 ∷ (place ++ x))) ++ 10 ∷ rest) values
            ∙ ap (λ x. (instance_text x (Old inst.number) ++ (46 ∷ (place ++ written))) ++ 10 ∷ rest) (sym net_is)
            ∙ ap (λ x. (instance_text net.name (Old inst.number) ++ (46 ∷ (x ++ written))) ++ 10 ∷ rest) (sym place_is)
            ∙ simp append_assoc,
        values_named are tokens_called,
      )

  abbrev SpellMarks : List (Option LineSaid) → Type 0
  SpellMarks lines = (held : ℕ) (marks : List MarkLine) (bytes : List ℕ) → marks_from format system all held lines ≡ (marks, None) → Spell lines bytes →
      (bytes ≡ marks_text marks) × MarksNamed names marks

  mark_on : (line : Option LineSaid) (lines : List (Option LineSaid)) (m : Marked) (held : ℕ) → line ≡ Some (LineSaid.holds m.inst m.place m.items) →
      SpellMarks lines → (o : Option Refusal) → fault_of_mark format system all held m ≡ o →
      (marks : List MarkLine) (bytes : List ℕ) → mark_then (told_mark system m) o (marks_from format system all (counted_after format held m.items) lines) ≡ (marks, None) →
      Spell (line ∷ lines) bytes → (bytes ≡ marks_text marks) × MarksNamed names marks
  mark_on line lines m held is more (Some refusal) fault marks bytes e spell =
      absurd (let end = ap (λ r. r.1) e in let no : ⊥ = cc in no)
  mark_on line lines m held is more None fault marks bytes e spell =
      let counted = counted_after format held m.items in
      let read : List MarkLine × Option Refusal = marks_from format system all counted lines in
      let are : told_mark system m ∷ read.0 ≡ marks = ap (λ r. r.0) e in
      let end : read.1 ≡ None = ap (λ r. r.1) e in
      let one = mark_spelled m held lines bytes fault (subst (λ l. Spell (l ∷ lines) bytes) is spell) in
      let rest = more counted read.0 one.0 (ap (λ s. (read.0, s)) end) one.1 in (
        one.2 ∙ ap (λ t. mark_text format system names (told_mark system m) ++ t) rest.0 ∙ ap marks_text are,
        subst (MarksNamed names) are (All-cons (λ line. All (AreNamed names) line.values) (told_mark system m) read.0 one.3 rest.1),
      )

  by_mark : (line : Option LineSaid) (lines : List (Option LineSaid)) (held : ℕ) → SpellMarks lines → (o : Option Marked) → marked line ≡ o →
      (marks : List MarkLine) (bytes : List ℕ) → marked_then format system all held o (λ more. marks_from format system all more lines) ≡ (marks, None) →
      Spell (line ∷ lines) bytes → (bytes ≡ marks_text marks) × MarksNamed names marks
  by_mark line lines held more None is marks bytes e spell = absurd (let end = ap (λ r. r.1) e in let no : ⊥ = cc in no)
  by_mark line lines held more (Some m) is marks bytes e spell =
      mark_on line lines m held (marked_is line m is) more (fault_of_mark format system all held m) refl marks bytes e spell

  pub marks_spelled : (lines : List (Option LineSaid)) → SpellMarks lines
  marks_spelled [] held marks bytes e spell =
      let none : [] ≡ marks = ap (λ r. r.0) e in
      (spell ∙ ap marks_text none, subst (MarksNamed names) none (All-nil (λ line. All (AreNamed names) line.values)))
  marks_spelled (line ∷ lines) held marks bytes e spell =
      by_mark line lines held (marks_spelled lines) (marked line) refl marks bytes e spell
