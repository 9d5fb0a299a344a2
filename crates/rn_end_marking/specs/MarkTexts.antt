-- The texts of the live part of a marking.
use Rattle.std.specs.Prelude.{ℕ, ◌<◌, List, length, flat_map}
use Rattle.rn_model.specs.declared.system.System.{System}
use Rattle.rn_model.specs.declared.log.MarkLine.{MarkLine}
use Rattle.rn_model.specs.Markings.{Marking}
use Rattle.rn_model.specs.Liveness.{IsMarkOf}
use Rattle.rn_record.specs.RecordText.{mark_text}
use Rattle.rn_spell.specs.Made.{names_of_nets}
use Rattle.rn_window.specs.Windows.{top}

-- the text of a line, where these are the nets of the instances, by number
abbrev pub line_text : ℕ → System → List ℕ → MarkLine → List ℕ
line_text format system nets line = mark_text format system (names_of_nets system nets) line

-- the texts of lines, one after the other
abbrev pub marks_text : ℕ → System → List ℕ → List MarkLine → List ℕ
marks_text format system nets lines = flat_map (line_text format system nets) lines

-- the text of each line of the live part has fewer bytes than the greatest count
abbrev pub AreShort : ℕ → System → List ℕ → Marking → Type 0
AreShort format system nets m =
    (line : MarkLine) → IsMarkOf system m line → length (line_text format system nets line) < top
