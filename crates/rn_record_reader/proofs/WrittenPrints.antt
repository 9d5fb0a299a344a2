-- Printed values that are written are read again.
use Rattle.std.proofs.Common.{◌≡◌, ℕ, ◌<◌, ◌≤◌, true, List, [], ◌∷◌, ◌++◌, length, refl, ap, ◌∙◌, append_assoc}
use Rattle.std.specs.Prelude.{Some, None, codes, flat_map}
use Rattle.std.specs.List.{AllByRecursion}
use Rattle.rn_items.proofs.Bools.{true_both}
use Rattle.rn_value.specs.Names.{AreNamed}
use Rattle.rn_value.specs.Text.{value_text}
use Rattle.rn_value.specs.declared.value.Value.{Value}
use Rattle.rn_model.specs.declared.system.System.{System}
use Rattle.rn_model.specs.Good.{Good}
use Rattle.rn_lines.specs.LineText.{IsLine, LineSaid, Token}
use Rattle.rn_lookup.specs.Found.{are_called, name_nets}
use Rattle.rn_record.specs.RecordText.{firing_lead, printed_line}
use Rattle.rn_record_reader.specs.Lines.{lines_in}
use Rattle.rn_record_reader.specs.Prints.{PrintsEnd, print_by, print_fault, print_then, prints_from}
use Rattle.rn_record_reader.specs.Readable.{IsReadable}
use Rattle.rn_record_reader.proofs.SpelledNodes.{names_for}
use Rattle.rn_record_reader.proofs.WrittenBindings.{own_step, own_worker}
use Rattle.rn_record_reader.proofs.WrittenLines.{lead_of, lead_written, line_then}
use Rattle.rn_record_reader.proofs.WrittenValues.{IsNet, value_read}

printed_cut : (lead text others rest : List ℕ) →
    ((lead ++ codes "> " ++ text ++ codes "\n") ++ others) ++ rest ≡ (lead ++ (62 ∷ 32 ∷ text)) ++ 10 ∷ (others ++ rest)
printed_cut lead text others rest = simp append_assoc

module _ (system : System) (good : Good system) (all : List ℕ) (real : AllByRecursion (IsNet system) all)
    (few : length all < 4294967296) (step worker : ℕ) (low : 1 ≤ worker) (high : worker ≤ 64) where
  abbrev names : List (List ℕ)
  names = names_for system all

  abbrev lead : List ℕ
  lead = firing_lead step worker

  abbrev prints : List Value → List ℕ
  prints = flat_map (printed_line names lead)

  -- nothing is wrong with the line of a value
  no_fault : (t : Token) → are_called system all t.named ≡ true → name_nets system t.named ≡ true →
      print_fault system all step worker (lead_of step worker) t ≡ None
  no_fault t called nets =
      let both = true_both (name_nets system t.named) (are_called system all t.named) nets called in
      rw (own_worker worker, both, own_step step) refl

  -- the values are read, and the lines after them are left
  pub prints_read : (outs : List Value) → AllByRecursion IsReadable outs → AllByRecursion (AreNamed names) outs →
      (rest : List ℕ) → prints_from system all step worker (lines_in rest) ≡ ([], PrintsEnd.over (lines_in rest)) →
      prints_from system all step worker (lines_in (prints outs ++ rest)) ≡ (outs, PrintsEnd.over (lines_in rest))
  prints_read [] readable named rest over = over
  prints_read (v ∷ outs) readable named rest over =
      let read = value_read system good all real few v readable.0 named.0 in
      let t : Token = record { value = v; named = read.0 } in
      let text = value_text v names in
      let later = lines_in (prints outs ++ rest) in
      let cut : prints (v ∷ outs) ++ rest ≡ (lead ++ (62 ∷ 32 ∷ text)) ++ 10 ∷ (prints outs ++ rest) = printed_cut lead text (prints outs) rest in
      let line = LineSaid.prints (lead_of step worker) t in
      ap (λ bytes. prints_from system all step worker (lines_in bytes)) cut
      ∙ ap (prints_from system all step worker) (line_then (IsLine.prints (lead_written step worker low high) read.1) (prints outs ++ rest))
      ∙ ap (λ o. print_then (Some line ∷ later) (print_by t o) (prints_from system all step worker later)) (no_fault t read.2 read.3)
      ∙ ap (λ x. (v ∷ x.0, x.1)) (prints_read outs readable.1 named.1 rest over)
