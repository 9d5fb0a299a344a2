-- The parts of a text are as short as the whole.
use Rattle.std.proofs.Common.{◌≡◌, ◌<◌, ◌+◌, ℕ, zero, suc, List, [], ◌∷◌, ◌++◌, length, length-append, sym, ap, ◌∙◌, subst, arith}
use Rattle.std.specs.Prelude.{◌≢◌, All, Contains, flat_map}
use Rattle.std.proofs.lemmas.List.Elements.{All-contains}
use Rattle.std.proofs.lemmas.Option.{same_Some}
use Rattle.rn_model.specs.declared.system.System.{System}
use Rattle.rn_model.specs.declared.log.Entry.{Entry}
use Rattle.rn_model.specs.declared.log.MarkLine.{MarkLine}
use Rattle.rn_model.specs.Liveness.{IsMarkOf, LivePart}
use Rattle.rn_model.specs.Markings.{Marking, net_of, tokens_at}
use Rattle.rn_model.proofs.EnablingLemmas.{not_in_nil}
use Rattle.rn_window.specs.Windows.{top}
use Rattle.rn_record.specs.Parts.{AreShort, entry_parts}
use Rattle.rn_record.specs.RecordText.{entries_text, entry_text, names_past}
use Rattle.rn_end_marking.specs.MarkTexts.{AreShort as AreShortMarks, line_text, marks_text}

-- where the lines of entries are short together, those of each are
pub entries_short : (system : System) (names : List (List ℕ)) (step : ℕ) (entries : List Entry) → length (entries_text system names step entries) < top →
    AreShort (entry_parts system names step entries)
entries_short system names step [] few = tt
entries_short system names step (entry ∷ entries) few =
    let past = names_past system names entry in
    let all = length-append (entry_text system names step entry) (entries_text system past (step + 1) entries) in
    (omega (arith, few, all), entries_short system past (step + 1) entries (omega (arith, few, all)))

-- each of several texts is as short as all of them
one_short : (f : MarkLine → List ℕ) (lines : List MarkLine) (line : MarkLine) → length (flat_map f lines) < top → Contains lines line → length (f line) < top
one_short f [] line few there = absurd (not_in_nil line there)
one_short f (x ∷ xs) line few (zero, h, e) =
    let all = length-append (f x) (flat_map f xs) in
    subst (λ y. length (f y) < top) e (omega (arith, few, all))
one_short f (x ∷ xs) line few (suc k, h, e) =
    let all = length-append (f x) (flat_map f xs) in
    one_short f xs line (omega (arith, few, all)) (k, omega (arith, h), e)

module _ (format : ℕ) (system : System) (nets : List ℕ) (m : Marking) where
  -- marks of the same place are the same
  same_mark : (x y : MarkLine) → IsMarkOf system m x → IsMarkOf system m y → x.inst ≡ y.inst → x.place ≡ y.place → x ≡ y
  same_mark x y p q inst place =
      let net = same_Some x.net y.net (sym p.net ∙ ap (net_of m) inst ∙ q.net) in
      let values = p.values ∙ (λ i. tokens_at m (inst i) (place i)) ∙ sym q.values in
      λ i. record { inst = inst i; net = net i; place = place i; values = values i }

  -- where the lines of the live part are short together, each is
  pub marks_short : (lines : List MarkLine) → LivePart system m lines → length (marks_text format system nets lines) < top → AreShortMarks format system nets m
  marks_short lines part few line mark =
      let some : tokens_at m line.inst line.place ≢ [] = λ none. mark.any (mark.values ∙ none) in
      let found = part.all line.inst line.place mark.live some in
      let also = All-contains (IsMarkOf system m) lines found.0 part.each found.1 in
      subst (λ x. length (line_text format system nets x) < top) (same_mark found.0 line also mark found.2 found.3)
      (one_short (line_text format system nets) lines found.0 few found.1)
