-- The laws of the translation as a net text.
use Rattle.std.specs.Prelude.{◌≡◌, ◌≤◌, length}
use Rattle.rn_notation.specs.Limits.{longest_net_text}
use Rattle.rn_model.specs.declared.system.System.{System}
use Rattle.rn_net.specs.declared.plain.Plain.{Plain}
use Rattle.rn_net.specs.Texts.{Spells}
use Rattle.rn_check.specs.Checked.{Checked}
use Rattle.rn_print.specs.Nets.{canonical_text}
use Rattle.rn_print.specs.SameButSpots.{SameButSpots}
use Rattle.rn_weighted.specs.declared.weighted.Weighted.{Weighted}
use Rattle.rn_weighted.specs.TextLength.{text_length}
use Rattle.rn_weighted.specs.Weighted.{IsWeighted}
use Rattle.rn_translated.specs.TranslatedSystem.{translated_system}
use Rattle.rn_translated.specs.Translation.{translated}

-- No rule of the notation is broken in the translation, and it means the system that stands for the
-- net.
abbrev pub TranslationsAreChecked : Type 0
TranslationsAreChecked = (net : Weighted) → IsWeighted net →
    Checked (translated net) (translated_system net)

-- So is whatever is the same but for its spots.
abbrev pub SpotsDoNotCount : Type 0
SpotsDoNotCount = (net : Weighted) (plain : Plain) → IsWeighted net →
    SameButSpots plain (translated net) → Checked plain (translated_system net)

-- The canonical text of the translation, if it is no longer than a net text may be, is a net text
-- that is accepted with that system: it spells a plain form, the translation but for its spots, in
-- which no rule is broken and which means the system.
abbrev pub TranslationsAreAccepted : Type 0
TranslationsAreAccepted = (net : Weighted) → IsWeighted net →
    length (canonical_text (translated net)) ≤ longest_net_text →
    (plain : Plain) × Spells (canonical_text (translated net)) plain
    × SameButSpots plain (translated net) × Checked plain (translated_system net)

-- And whatever that text is read as means no other system.
abbrev pub OneSystemIsRead : Type 0
OneSystemIsRead = (net : Weighted) (plain : Plain) (system : System) → IsWeighted net →
    Spells (canonical_text (translated net)) plain → Checked plain system →
    system ≡ translated_system net

-- The canonical text of the translation has just as many bytes as are counted line by line without
-- making it.
abbrev pub TextsHaveTheirLength : Type 0
TextsHaveTheirLength = (net : Weighted) → IsWeighted net →
    length (canonical_text (translated net)) ≡ text_length net
