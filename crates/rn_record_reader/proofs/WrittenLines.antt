-- Lines that are written are read again.
use Rattle.std.proofs.Common.{◌≡◌, ℕ, ◌≤◌, List, [], ◌∷◌, ◌++◌, refl, ap, ◌∙◌, subst, append_assoc}
use Rattle.std.specs.Prelude.{Some}
use Rattle.rn_value.specs.Text.{numeral}
use Rattle.rn_value.proofs.Numerals.{IsNumeral-numeral}
use Rattle.rn_lines.specs.LineText.{IsLead, IsLine, LeadSaid, LineSaid}
use Rattle.rn_lines.proofs.LineForms.{line_reads}
use Rattle.rn_lines.proofs.OneLine.{no_line_feed}
use Rattle.rn_record.specs.RecordText.{firing_lead}
use Rattle.rn_record_reader.specs.Lines.{lines_in}
use Rattle.rn_record_reader.proofs.LineLemmas.{first_is}

-- a line and those after it
pub line_then : {x : LineSaid} {text : List ℕ} → IsLine x text → (rest : List ℕ) →
    lines_in (text ++ 10 ∷ rest) ≡ Some x ∷ lines_in rest
line_then {x = x} {text = text} is rest =
    first_is (text ++ 10 ∷ rest) text rest refl (no_line_feed x text is)
    ∙ ap (λ o. o ∷ lines_in rest) (line_reads is)

-- how the lines of a firing begin
abbrev pub lead_of : ℕ → ℕ → LeadSaid
lead_of step worker = record { step = numeral step; worker = worker }

pub lead_written : (step worker : ℕ) → 1 ≤ worker → worker ≤ 64 → IsLead (lead_of step worker) (firing_lead step worker)
lead_written step worker low high =
    let text : numeral step ++ (32 ∷ 119 ∷ (numeral worker ++ 32 ∷ [])) ≡ firing_lead step worker = simp append_assoc in
    subst (IsLead (lead_of step worker)) text (IsLead.lead (IsNumeral-numeral step) low high (IsNumeral-numeral worker))
