-- Counting the rows of an input.
use Rattle.std.specs.Prelude.{ℕ, ◌≡◌, ◌+◌, ◌⊎◌, Bool, List, [], ◌∷◌, Option, None, Some, nat_eq}
use Rattle.std.specs.Prelude.{if◌then◌else◌}
use Rattle.rn_outside.specs.Bytes.{GivesAll}
use Rattle.renew_rows.specs.declared.judging.Judged.{Judged}
use Rattle.renew_rows.specs.declared.row.Row.{Row}
use Rattle.renew_rows.specs.declared.tally.RowTally.{RowTally}
use Rattle.renew_rows.specs.Judging.{AreJudged, IsOfRow, IsWrong}
use Rattle.renew_rows.specs.Lines.{headings, lines_of}
use Rattle.renew_rows.specs.Rows.{heading_of}

-- a row that was judged is counted, and among those that aren't as they must be where it is wrong
abbrev pub Counts : Judged → RowTally → RowTally → Type 0
Counts judged tally more = (more.rows ≡ tally.rows + 1)
    × ((IsWrong judged × (more.differ ≡ tally.differ + 1))
    ⊎ ((¬ IsWrong judged) × (more.differ ≡ tally.differ)))

-- The first of the rows that begin here was judged and counted, and those stay that begin after
-- it. Or none begins here.
abbrev pub CountsNext : List (List ℕ × Bool) → List (List ℕ × Bool) → RowTally → Option RowTally → Type 0
CountsNext before after tally None = before ≡ []
CountsNext before after tally (Some more) = (row : Row) × (judged : Judged)
    × (before ≡ heading_of row ∷ after) × IsOfRow row judged × Counts judged tally more

-- All of the input was read, and all its rows were judged. The status is 0 where none is wrong,
-- and else 1.
abbrev pub EndsWith : Option (List ℕ) → Option (List ℕ) → ℕ → Type 0
EndsWith left left_after status = (text : List ℕ) × (rows : ℕ) × (differ : ℕ)
    × GivesAll left text left_after × AreJudged (headings (lines_of text)) rows differ
    × (status ≡ (if nat_eq differ 0 then 0 else 1))
