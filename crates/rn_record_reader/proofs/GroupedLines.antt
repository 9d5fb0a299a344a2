-- Lines, of which those of marks have their items grouped. They are lines of other bytes.
use Rattle.std.proofs.Common.{◌≡◌, ◌≢◌, ℕ, Bool, true, false, cond, List, [], ◌∷◌, ◌++◌, map, refl, ap, ◌∙◌}
use Rattle.std.specs.Prelude.{Option, Some, None, nat_eq, option_map}
use Rattle.rn_value.specs.Words.{IsName}
use Rattle.rn_lines.specs.LineText.{AreItems, Held, IsLine, LineSaid}
use Rattle.rn_lines.specs.LineReading.{line_at}
use Rattle.rn_lines.specs.NodeText.{IsInstance}
use Rattle.rn_lines.specs.ValueText.{Said}
use Rattle.rn_lines.proofs.LineForms.{line_read}
use Rattle.rn_record_reader.specs.Lines.{lines_from, lines_in}
use Rattle.rn_record_reader.proofs.GroupedItems.{grouped, grouped_some, grouped_written}
use Rattle.rn_record_reader.proofs.WrittenLines.{line_then}

-- what a line says, with its items grouped where it is a mark
abbrev pub with_grouped : LineSaid → LineSaid
with_grouped (LineSaid.holds inst place items) = LineSaid.holds inst place (grouped items)
with_grouped line = line

-- a line like this
abbrev pub regrouped : Option LineSaid → Option LineSaid
regrouped = option_map with_grouped

-- It has a text.
mark_written : {inst : Said} {place a b : List ℕ} → IsInstance inst a → IsName place → (items : List Held) → items ≢ [] →
    AreItems items b → IsLine (LineSaid.holds inst place items) (a ++ (46 ∷ (place ++ b)))
mark_written is_inst is_name [] some are = absurd (some refl)
mark_written is_inst is_name (h ∷ hs) some are = IsLine.holds is_inst is_name are

line_written : {x : LineSaid} {text : List ℕ} → IsLine x text → (other : List ℕ) × IsLine (with_grouped x) other
line_written (IsLine.holds {place = place} {a = a} {h = h} {items = items} is_inst is_name are) =
    let written = grouped_written are in
    (a ++ (46 ∷ (place ++ written.0)), mark_written is_inst is_name (grouped (h ∷ items)) (grouped_some h (grouped items)) written.1)
line_written (IsLine.fires {a = a} {b = b} begins said) = (a ++ b, IsLine.fires begins said)
line_written (IsLine.calls {a = a} {b = b} begins said) = (a ++ (43 ∷ 32 ∷ b), IsLine.calls begins said)
line_written (IsLine.prints {a = a} {b = b} begins shown) = (a ++ (62 ∷ 32 ∷ b), IsLine.prints begins shown)
line_written {text = text} IsLine.ends = (text, IsLine.ends)
line_written (IsLine.would_fire {b = b} said) = (33 ∷ 32 ∷ b, IsLine.would_fire said)
line_written (IsLine.would_call {b = b} said) = (33 ∷ 32 ∷ 43 ∷ 32 ∷ b, IsLine.would_call said)

-- Bytes with these lines.
abbrev HaveBytes : List (Option LineSaid) → Type 0
HaveBytes lines = (bytes : List ℕ) × (lines_in bytes ≡ map regrouped lines)

line_before : (before : List ℕ) (lines : List (Option LineSaid)) (o : Option LineSaid) → ((x : LineSaid) → o ≡ Some x → IsLine x before) →
    HaveBytes lines → HaveBytes (o ∷ lines)
line_before before lines None is rest = (10 ∷ rest.0, ap (λ ls. None ∷ ls) rest.1)
line_before before lines (Some x) is rest =
    let written = line_written (is x refl) in
    (written.0 ++ 10 ∷ rest.0, line_then written.1 rest.0 ∙ ap (λ ls. Some (with_grouped x) ∷ ls) rest.1)

by_byte : (before : List ℕ) (c : ℕ) (bytes : List ℕ) (feed : Bool) → HaveBytes (lines_in bytes) → HaveBytes (lines_from (before ++ c ∷ []) bytes) →
    HaveBytes (cond feed (line_at before ∷ lines_in bytes) (lines_from (before ++ c ∷ []) bytes))
by_byte before c bytes true rest longer = line_before before (lines_in bytes) (line_at before) (line_read before) rest
by_byte before c bytes false rest longer = longer

bytes_from : (before bytes : List ℕ) → HaveBytes (lines_from before bytes)
bytes_from [] [] = ([], refl)
bytes_from (c ∷ before) [] = (0 ∷ [], refl)
bytes_from before (c ∷ bytes) = by_byte before c bytes (nat_eq c 10) (bytes_from [] bytes) (bytes_from (before ++ c ∷ []) bytes)

pub regrouped_bytes : (bytes : List ℕ) → HaveBytes (lines_in bytes)
regrouped_bytes bytes = bytes_from [] bytes
