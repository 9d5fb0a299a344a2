-- Marks that are written are read again.
use Rattle.std.proofs.Common.{◌≡◌, ◌≢◌, ℕ, ◌+◌, ◌<◌, ◌≤◌, inl, inr, Bool, true, false, cond, List, [], ◌∷◌, ◌++◌, length, map, refl, sym, ap, ◌∙◌, subst, append_assoc, arith, length-append}
use Rattle.std.specs.Prelude.{Option, Some, None, ◌&&◌, not, bytes_eq, codes, flat_map, is_some, nat_eq, nat_lt, unwrap_or}
use Rattle.std.specs.List.{AllByRecursion, list_all}
use Rattle.std.specs.Option.{option_map_or}
use Rattle.std.proofs.lemmas.Bool.Decides.{nat_tests}
use Rattle.std.proofs.lemmas.List.Elements.{All-from_recursion, recursion_from_All}
use Rattle.std.proofs.lemmas.Slice.Eq.{bytes_eq-Decides}
use borrow.Author.Tests.{eq-eqb, eqb-false, eqb-true}
use Rattle.rn_items.proofs.Bools.{true_both}
use Rattle.rn_items.proofs.Lists.{element_at}
use Rattle.rn_value.specs.Kinds.{HasKind, value_has_kind}
use Rattle.rn_value.specs.Names.{AreNamed}
use Rattle.rn_value.specs.Text.{value_text}
use Rattle.rn_value.specs.Words.{IsName}
use Rattle.rn_value.specs.declared.value.InstRef.TheVariants.{Old}
use Rattle.rn_value.specs.declared.value.Kind.{Kind}
use Rattle.rn_value.specs.declared.value.Value.{Value}
use Rattle.rn_model.specs.declared.log.MarkLine.{MarkLine}
use Rattle.rn_model.specs.declared.system.System.{System}
use Rattle.rn_model.specs.declared.system.Net.{Net}
use Rattle.rn_model.specs.declared.system.Place.{Place}
use Rattle.rn_model.specs.declared.repeats.Repeat.{Repeat}
use Rattle.rn_model.specs.Lists.{same_value}
use Rattle.rn_model.specs.Repeats.{AreParted, BeginsOtherwise, repeats_of, values_of}
use Rattle.rn_model.specs.Good.{Good, IsGoodPlace}
use Rattle.rn_model.specs.Systems.{net_at, place_kind, place_kind_in}
use Rattle.rn_model.proofs.EachElement.{at_place}
use Rattle.rn_model.proofs.RepeatedValues.{repeats_are_parted, repeats_hold_values}
use Rattle.rn_model.proofs.ValueLists.{same_is}
use Rattle.rn_model.proofs.MarkingsOfRuns.{good_net}
use Rattle.rn_lines.specs.LineText.{AreItems, Held, IsCount, IsLine, LineSaid}
use Rattle.rn_lines.proofs.Counts.{Counts, count_written, once_written}
use Rattle.rn_lines.specs.ValueText.{Said}
use Rattle.rn_lookup.specs.declared.refusal.Refusal.{Refusal}
use Rattle.rn_lookup.specs.declared.refusal.Refusal.TheVariants.{Form, Name, Many}
use Rattle.rn_lookup.specs.Faults.{has_place, mark_fault, tokens_fault}
use Rattle.rn_lookup.specs.Found.{are_called, is_called, name_nets, names_net, net_of_made, net_said, place_named, place_said, tokens_are_called, tokens_held}
use Rattle.rn_model.specs.NodeText.{instance_text}
use Rattle.rn_record.specs.RecordText.{count_text, item_text, mark_text, place_name, token_text, tokens_text}
use Rattle.rn_record_reader.proofs.NamedRepeats.{all_repeats}
use Rattle.rn_record_reader.specs.Lines.{lines_in}
use Rattle.rn_record_reader.specs.Laws.{HoldsFew}
use Rattle.rn_record_reader.specs.Marks.{Marked, are_parted, are_single, count_fault, counted_after, fault_of_mark, first_reason, fits_format, mark_then, marks_from, most_told_values, parted_from, size_of, told_mark, uncalled_mark, values_told}
use Rattle.rn_record_reader.specs.Readable.{IsReadable}
use Rattle.rn_record_reader.proofs.HeldValues.{values_are}
use Rattle.rn_record_reader.proofs.SpelledMarks.{repeat_of, repeats_values}
use Rattle.rn_record_reader.proofs.SpelledNodes.{names_for}
use Rattle.rn_record_reader.proofs.WrittenLines.{line_then}
use Rattle.rn_record_reader.proofs.WrittenNodes.{instance_written, net_found}
use Rattle.rn_record_reader.proofs.WrittenValues.{IsNet, number_is, value_read}

mark_cut : (inst place tokens rest : List ℕ) →
    ((inst ++ codes "." ++ place) ++ tokens ++ codes "\n") ++ rest ≡ (inst ++ (46 ∷ (place ++ tokens))) ++ 10 ∷ rest
mark_cut inst place tokens rest = simp append_assoc

-- a place of a net of a good system is found by its name
place_found : (system : System) → Good system → (net p : ℕ) → IsNet system net → p < length (net_at system net).places →
    IsName (place_name (net_at system net) p) × (place_named (net_at system net) (place_name (net_at system net) p) ≡ Some p)
place_found system good net p low high =
    let from : 0 + p ≡ p = omega arith in
    let is = good_net system net good low in
    let found = element_at (net_at system net).places p high in
    let name : place_name (net_at system net) p ≡ found.0.name = ap (λ o. option_map_or (λ (place : Place). place.name) o []) found.1 in (
      subst IsName (sym name) (at_place IsGoodPlace (net_at system net).places p found.0 is.places found.1).name.0,
      number_is (λ (place : Place). place.name) (place_name (net_at system net) p) 0 (net_at system net).places p found.0
          is.places_distinct found.1 (sym name)
          ∙ ap (λ n. Some n) from,
    )

-- How many values are counted.
abbrev counted : ℕ → ℕ → ℕ → ℕ
counted format held n = cond (nat_eq format 1) held (held + n)

-- the values of these marks aren't too many after so many
abbrev pub Remain : ℕ → ℕ → List MarkLine → Type 0
Remain format held marks = counted format held (length (flat_map (λ line. line.values) marks)) ≤ most_told_values

pub holds_few : (format : ℕ) (marks : List MarkLine) → HoldsFew format marks → Remain format 0 marks
holds_few format marks few = elim few as (λ _. Remain format 0 marks) [
  | inl one ↦ subst (λ b. cond b 0 (0 + length (flat_map (λ line. line.values) marks)) ≤ most_told_values) (sym (eq-eqb format 1 one)) (omega arith)
  | inr low ↦ by (nat_eq format 1) low
]
  where
    by : (first : Bool) → length (flat_map (λ line. line.values) marks) ≤ most_told_values →
        cond first 0 (0 + length (flat_map (λ line. line.values) marks)) ≤ most_told_values
    by true low = omega arith
    by false low = omega (arith, low)

one_fewer : (format held n : ℕ) (vs rest : List Value) → n ≡ length vs → counted format held (length (vs ++ rest)) ≤ most_told_values →
    (counted format held n ≤ most_told_values) × (counted format (counted format held n) (length rest) ≤ most_told_values)
one_fewer format held n vs rest size few = by (nat_eq format 1) few
  where
    by : (first : Bool) → cond first held (held + length (vs ++ rest)) ≤ most_told_values →
        (cond first held (held + n) ≤ most_told_values)
        × (cond first (cond first held (held + n)) (cond first held (held + n) + length rest) ≤ most_told_values)
    by true few = (few, few)
    by false few = let both = length-append vs rest in (omega (arith, few, both, size), omega (arith, few, both, size))

pub not_over : (most n : ℕ) → n ≤ most → nat_lt most n ≡ false
not_over most n low = grind (arith, nat_tests)

each_count : (n : ℕ) → 0 < n → Counts n
each_count n some = by (nat_eq n 1) refl
  where
    by : (one : Bool) → nat_eq n 1 ≡ one → Counts n
    by true e = once_written n (eqb-true n 1 e)
    by false e = let apart : ¬ (n ≡ 1) = eqb-false n 1 e in count_written n (omega (arith, some, apart))

-- items of values that aren't those of their neighbours
other : (v w : Value) → ¬ (v ≡ w) → not (same_value v w) ≡ true
other v w differ = by (same_value v w) refl
  where
    by : (same : Bool) → same_value v w ≡ same → not same ≡ true
    by true e = absurd (differ (same_is v w e))
    by false e = refl

parted_after : (v : Value) (hs : List Held) → BeginsOtherwise v (map repeat_of hs) → AreParted (map repeat_of hs) → parted_from v hs ≡ true
parted_after v [] begins parted = refl
parted_after v (h ∷ hs) begins parted =
    true_both (not (same_value v h.token.value)) (parted_from h.token.value hs) (other v h.token.value begins)
    (parted_after h.token.value hs parted.1 parted.2)

parted_of : (hs : List Held) → AreParted (map repeat_of hs) → are_parted hs ≡ true
parted_of [] parted = refl
parted_of (h ∷ hs) parted = parted_after h.token.value hs parted.1 parted.2

module _ (system : System) (good : Good system) (all : List ℕ) (real : AllByRecursion (IsNet system) all)
    (few : length all < 4294967296) where
  abbrev names : List (List ℕ)
  names = names_for system all

  -- a value that can stand in a mark of this kind
  abbrev IsRight : Kind → Value → Type 0
  IsRight kind v = IsReadable v × AreNamed names v × HasKind v kind

  -- what is read of items
  record Read (kind : Kind) (vs : List Value) (text : List ℕ) : Type 0 where
    items : List Held
    are : AreItems items text
    values : values_told items ≡ vs
    nets : list_all (λ t. name_nets system t.named) (tokens_held items) ≡ true
    called : tokens_are_called system all (tokens_held items) ≡ true
    kinds : list_all (λ t. value_has_kind t.value kind) (tokens_held items) ≡ true

  -- values one by one
  abbrev Singles : Kind → List Value → Type 0
  Singles kind vs = (r : Read kind vs (flat_map (token_text names) vs)) × (are_single r.items ≡ true)

  singles_read : (kind : Kind) (vs : List Value) → AllByRecursion (IsRight kind) vs → Singles kind vs
  singles_read kind [] right = (record { items = []; are = AreItems.none; values = refl; nets = refl; called = refl; kinds = refl }, refl)
  singles_read kind (v ∷ vs) right =
      let one = value_read system good all real few v right.0.0 right.0.1 in
      let rest = singles_read kind vs right.1 in
      let hs : List Held = rest.0.items in
      let h : Held = record { token = record { value = v; named = one.0 }; times = [] } in
      let whole : 32 ∷ (value_text v names ++ ([] ++ flat_map (token_text names) vs)) ≡ flat_map (token_text names) (v ∷ vs) = refl in (
        record {
          items = h ∷ hs;
          are = subst (AreItems (h ∷ hs)) whole (AreItems.some one.1 IsCount.once rest.0.are);
          values = ap (λ ws. v ∷ ws) rest.0.values;
          nets = true_both (name_nets system one.0) (list_all (λ t. name_nets system t.named) (tokens_held hs)) one.3 rest.0.nets;
          called = true_both (are_called system all one.0) (tokens_are_called system all (tokens_held hs)) one.2 rest.0.called;
          kinds = true_both (value_has_kind v kind) (list_all (λ t. value_has_kind t.value kind) (tokens_held hs)) right.0.2 rest.0.kinds;
        },
        rest.1,
      )

  -- values with how often they stand there
  abbrev Repeated : Kind → List Repeat → Type 0
  Repeated kind rs = (r : Read kind (values_of rs) (flat_map (item_text names) rs)) × (map repeat_of r.items ≡ rs)

  repeats_read : (kind : Kind) (rs : List Repeat) → AllByRecursion (λ r. IsRight kind r.value) rs → AreParted rs → Repeated kind rs
  repeats_read kind [] right parted = (record { items = []; are = AreItems.none; values = refl; nets = refl; called = refl; kinds = refl }, refl)
  repeats_read kind (r ∷ rs) right parted =
      let v : Value = r.value in
      let one = value_read system good all real few v right.0.0 right.0.1 in
      let rest = repeats_read kind rs right.1 parted.2 in
      let hs : List Held = rest.0.items in
      let count = each_count r.count parted.0 in
      let h : Held = record { token = record { value = v; named = one.0 }; times = count.times } in
      let more = flat_map (item_text names) rs in
      let whole : 32 ∷ (value_text v names ++ (count_text r.count ++ more)) ≡ flat_map (item_text names) (r ∷ rs) =
      ap (λ t. 32 ∷ t) (sym (append_assoc (value_text v names) (count_text r.count) more)) in
      let same : map repeat_of (h ∷ hs) ≡ r ∷ rs = (λ i. record { value = r.value; count = count.number i } ∷ rest.1 i) in (
        record {
          items = h ∷ hs;
          are = subst (AreItems (h ∷ hs)) whole (AreItems.some one.1 count.stands rest.0.are);
          values = sym (repeats_values (h ∷ hs)) ∙ ap values_of same;
          nets = true_both (name_nets system one.0) (list_all (λ t. name_nets system t.named) (tokens_held hs)) one.3 rest.0.nets;
          called = true_both (are_called system all one.0) (tokens_are_called system all (tokens_held hs)) one.2 rest.0.called;
          kinds = true_both (value_has_kind v kind) (list_all (λ t. value_has_kind t.value kind) (tokens_held hs)) right.0.2 rest.0.kinds;
        },
        same,
      )

  parted_read : (kind : Kind) (vs : List Value) → AllByRecursion (IsRight kind) vs →
      (r : Read kind vs (flat_map (item_text names) (repeats_of vs))) × (are_parted r.items ≡ true)
  parted_read kind vs right =
      let rs : List Repeat = repeats_of vs in
      let parted = repeats_are_parted vs in
      let each = recursion_from_All (λ r. IsRight kind r.value) rs (all_repeats (IsRight kind) vs (All-from_recursion (IsRight kind) vs right)) in
      let read = repeats_read kind rs each parted in
      subst (λ ws. (r : Read kind ws (flat_map (item_text names) rs)) × (are_parted r.items ≡ true)) (repeats_hold_values vs)
      (read.0, parted_of read.0.items (subst AreParted (sym read.1) parted))

  -- What is known of a mark.
  pub record IsRightMark (line : MarkLine) : Type 0 where
    pub made : net_of_made all line.inst ≡ Some line.net
    pub net : IsNet system line.net
    pub low : 1 ≤ line.inst
    pub high : line.inst < 4294967296
    pub place : line.place < length (net_at system line.net).places
    pub kinds : AllByRecursion (λ v. HasKind v (place_kind system line.net line.place)) line.values
    pub any : line.values ≢ []
    pub readable : AllByRecursion IsReadable line.values
    pub named : AllByRecursion (AreNamed names) line.values

  rights : (kind : Kind) (vs : List Value) → AllByRecursion IsReadable vs → AllByRecursion (AreNamed names) vs → AllByRecursion (λ v. HasKind v kind) vs →
      AllByRecursion (IsRight kind) vs
  rights kind [] readable named kinds = tt
  rights kind (v ∷ vs) readable named kinds = ((readable.0, named.0, kinds.0), rights kind vs readable.1 named.1 kinds.1)

  module _ (format : ℕ) where
    -- of any format
    items_read : (kind : Kind) (vs : List Value) → AllByRecursion (IsRight kind) vs →
        (r : Read kind vs (tokens_text format names vs)) × (fits_format format r.items ≡ true)
    items_read kind vs right = by (nat_eq format 1)
      where
        by : (first : Bool) → (r : Read kind vs (cond first (flat_map (token_text names) vs) (flat_map (item_text names) (repeats_of vs))))
            × (cond first (are_single r.items) (are_parted r.items) ≡ true)
        by true = singles_read kind vs right
        by false = parted_read kind vs right

    module _ (line : MarkLine) (is : IsRightMark line) where
      abbrev net : Net
      net = net_at system line.net

      abbrev own : Said
      own = record { name = net.name; number = line.inst }

      abbrev word : List ℕ
      word = place_name net line.place

      place_is : IsName word × (place_named net word ≡ Some line.place)
      place_is = place_found system good line.net line.place is.net is.place

      abbrev kind : Kind
      kind = place_kind system line.net line.place

      read : (r : Read kind line.values (tokens_text format names line.values)) × (fits_format format r.items ≡ true)
      read = items_read kind line.values (rights kind line.values is.readable is.named is.kinds)

      abbrev items : List Held
      items = read.0.items

      abbrev said : Marked
      said = record { inst = own; place = word; items = items }

      net_same : net_said system own ≡ line.net
      net_same = ap (λ o. unwrap_or o 0) (net_found system good line.net is.net)

      named_there : place_named (net_at system (net_said system own)) word ≡ Some line.place
      named_there = ap (λ k. place_named (net_at system k) word) net_same ∙ place_is.1

      place_same : place_said system own word ≡ line.place
      place_same = ap (λ o. unwrap_or o 0) named_there

      there : has_place system own word ≡ true
      there =
          true_both (names_net system own) (is_some (place_named (net_at system (net_said system own)) word))
          (ap is_some (net_found system good line.net is.net)) (ap is_some named_there)

      no_fault : mark_fault system own word (tokens_held items) ≡ None
      no_fault =
          ap (λ b. cond (not b) (Some Name) (tokens_fault system (place_kind_in (net_at system (net_said system own)) (place_said system own word)) (tokens_held items))) there
          ∙ ap (λ k. tokens_fault system (place_kind_in (net_at system k) (place_said system own word)) (tokens_held items)) net_same
          ∙ ap (λ p. tokens_fault system (place_kind system line.net p) (tokens_held items)) place_same
          ∙ ap (λ b. cond (not b) (Some Form) (cond (not (list_all (λ t. name_nets system t.named) (tokens_held items))) (Some Name) None)) read.0.kinds
          ∙ ap (λ b. cond (not b) (Some Name) None) read.0.nets

      called : is_called system all own && tokens_are_called system all (tokens_held items) ≡ true
      called =
          true_both (is_called system all own) (tokens_are_called system all (tokens_held items))
          (ap (λ o. option_map_or (λ k. bytes_eq (net_at system k).name net.name) o false) is.made
          ∙ (bytes_eq-Decides net.name net.name).1 refl) read.0.called

      fine : (held : ℕ) → counted_after format held items ≤ most_told_values → fault_of_mark format system all held said ≡ None
      fine held enough =
          let third = first_reason (uncalled_mark system all said) (count_fault format held said) in
          ap (λ b. first_reason (cond b None (Some Form)) (first_reason (mark_fault system own word (tokens_held items)) third)) read.1
          ∙ ap (λ o. first_reason o third) no_fault
          ∙ ap (λ b. first_reason (cond b None (Some Name)) (count_fault format held said)) called
          ∙ ap (λ b. cond b (Some Many) None) (not_over most_told_values (counted_after format held items) enough)

      size : size_of items ≡ length line.values
      size = sym (values_are items) ∙ ap length read.0.values

      told : told_mark system said ≡ line
      told =
          ap (λ k. let l : MarkLine = record { inst = line.inst; net = k; place = place_said system own word; values = values_told items } in l) net_same
          ∙ ap (λ p. let l : MarkLine = record { inst = line.inst; net = line.net; place = p; values = values_told items } in l) place_same
          ∙ ap (λ vs. let l : MarkLine = record { inst = line.inst; net = line.net; place = line.place; values = vs } in l) read.0.values

      abbrev bytes : List ℕ
      bytes = tokens_text format names line.values

      line_is : (hs : List Held) (vs : List Value) → values_told hs ≡ vs → vs ≢ [] →
          AreItems hs bytes → IsLine (LineSaid.holds own word hs) (instance_text net.name (Old line.inst) ++ (46 ∷ (word ++ bytes)))
      line_is [] vs values any are = absurd (any (sym values))
      line_is (h ∷ hs) vs values any are =
          IsLine.holds (instance_written own (good_net system line.net good is.net).name.0 is.low is.high) place_is.0 are

      mark_then_rest : (rest : List ℕ) → lines_in (mark_text format system names line ++ rest) ≡ Some (LineSaid.holds own word items) ∷ lines_in rest
      mark_then_rest rest =
          let cut : mark_text format system names line ++ rest ≡ (instance_text net.name (Old line.inst) ++ (46 ∷ (word ++ bytes))) ++ 10 ∷ rest =
          mark_cut (instance_text net.name (Old line.inst)) word bytes rest in
          ap lines_in cut ∙ line_then (line_is items line.values read.0.values is.any read.0.are) rest

    -- the marks are read
    pub marks_read : (held : ℕ) (marks : List MarkLine) → AllByRecursion IsRightMark marks → Remain format held marks →
        marks_from format system all held (lines_in (flat_map (mark_text format system names) marks)) ≡ (marks, None)
    marks_read held [] are enough = refl
    marks_read held (line ∷ marks) (is, are) enough =
        let rest = flat_map (mark_text format system names) marks in
        let m = said line is in
        let next = one_fewer format held (size_of m.items) line.values (flat_map (λ line. line.values) marks) (size line is) enough in
        let more = counted_after format held m.items in
        ap (marks_from format system all held) (mark_then_rest line is rest)
        ∙ ap (λ o. mark_then (told_mark system m) o (marks_from format system all more (lines_in rest))) (fine line is held next.0)
        ∙ ap (λ read. (told_mark system m ∷ read.0, read.1)) (marks_read more marks are next.1)
        ∙ ap (λ l. let read : List MarkLine × Option Refusal = (l ∷ marks, None) in read) (told line is)
