-- The lines of each entry of a run.
use Rattle.std.specs.Prelude.{ℕ, ◌+◌, ◌<◌, List, [], ◌∷◌, length, ⊤}
use Rattle.rn_model.specs.declared.system.System.{System}
use Rattle.rn_model.specs.declared.log.Entry.{Entry}
use Rattle.rn_window.specs.Windows.{top}
use Rattle.rn_record.specs.RecordText.{entry_text, names_past}

-- the lines of each entry, the first with this number
abbrev pub entry_parts : System → List (List ℕ) → ℕ → List Entry → List (List ℕ)
entry_parts system names step [] = []
entry_parts system names step (entry ∷ entries) =
    entry_text system names step entry
    ∷ entry_parts system (names_past system names entry) (step + 1) entries

-- each of these texts has fewer bytes than can be counted
abbrev pub AreShort : List (List ℕ) → Type 0
AreShort [] = ⊤
AreShort (part ∷ parts) = (length part < top) × AreShort parts
