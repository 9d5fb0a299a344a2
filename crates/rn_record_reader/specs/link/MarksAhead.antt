-- What the code knows of the marks that come next. It connects the code with the definitions, and
-- states no rule.
use Rattle.std.specs.Prelude.{◌≡◌, ◌<◌, ◌≤◌, ℕ, List, [], ◌∷◌, ◌++◌, map, Option, Some, None, length, ⊤}
use Rattle.rn_model.specs.declared.system.System.{System}
use Rattle.rn_model.specs.declared.log.MarkLine.{MarkLine}
use Rattle.rn_lines.specs.link.Said.{said}
use Rattle.rn_lines.specs.LineText.{LineSaid}
use Rattle.rn_lines.specs.link.LinesSeen.{item}
use Rattle.rn_lines.specs.declared.lines.ReadMark.{ReadMark}
use Rattle.rn_lookup.specs.declared.refusal.Refusal.{Refusal}
use Rattle.rn_record_reader.specs.Marks.{Marked, told_mark, fault_of_mark, counted_after, most_told_values, marks_from}
use Rattle.rn_record_reader.specs.declared.marks.MarkNext.{MarkNext}
use Rattle.rn_record_reader.specs.declared.marks.MarkNext.TheVariants.{End, Marks, Refused}

-- what a line of a mark says
abbrev pub mark : ReadMark → Marked
mark m = record { inst = said m.inst; place = m.place.now; items = map item m.items.items }

-- what the code says of a mark, with the values that are counted then
abbrev pub MarkJudged : ℕ → System → List ℕ → ℕ → Marked → MarkNext → Type 0
MarkJudged format system made held m End = ⊥
MarkJudged format system made held m (Marks line more) =
    (fault_of_mark format system made held m ≡ None) × (line ≡ told_mark system m)
    × (more ≡ counted_after format held m.items) × (more ≤ most_told_values)
MarkJudged format system made held m (Refused refusal) =
    fault_of_mark format system made held m ≡ Some refusal

-- what is read of these lines, by what the code says of the first, with these left after it
abbrev pub MarkSteps : ℕ → System → List ℕ → ℕ → List (Option LineSaid) → MarkNext →
    List (Option LineSaid) → Type 0
MarkSteps format system made held lines End rest =
    marks_from format system made held lines ≡ ([], None)
MarkSteps format system made held lines (Marks line more) rest =
    (marks_from format system made held lines
    ≡ (line ∷ (marks_from format system made more rest).0, (marks_from format system made more rest).1))
    × (more ≤ most_told_values)
MarkSteps format system made held lines (Refused refusal) rest =
    marks_from format system made held lines ≡ ([], Some refusal)

-- fewer bytes are left after a mark
abbrev pub LeavesLess : MarkNext → List ℕ → List ℕ → Type 0
LeavesLess End rest bytes = ⊤
LeavesLess (Marks line more) rest bytes = length rest < length bytes
LeavesLess (Refused refusal) rest bytes = ⊤

-- marks, with some before them
abbrev pub with_lines : List MarkLine → List MarkLine × Option Refusal →
    List MarkLine × Option Refusal
with_lines ms read = (ms ++ read.0, read.1)
