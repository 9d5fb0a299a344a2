-- What the code says of what a record tells. It connects the code with the definitions.
use Rattle.std.specs.Prelude.{◌≡◌, ◌+◌, ◌≤◌, ℕ, List, [], ◌∷◌, drop, length, Option, Result, Ok, Err, ⊤}
use Rattle.rn_model.specs.declared.log.Entry.{Entry}
use Rattle.rn_model.specs.declared.log.Entry.TheVariants.{End}
use Rattle.rn_model.specs.declared.log.Told.{Told}
use Rattle.rn_lines.specs.LineText.{LineSaid}
use Rattle.rn_lookup.specs.declared.refusal.Refusal.TheVariants.{Form, Name, Step, Many}
use Rattle.rn_record_reader.specs.Lines.{lines_in}
use Rattle.rn_record_reader.specs.Runs.{Verdict, with_entry, Opening, opening_of, Tells}
use Rattle.rn_model.specs.declared.system.System.{System}
use Rattle.rn_record_reader.specs.declared.entries.EntryRead.{EntryRead}
use Rattle.rn_record_reader.specs.declared.entries.EntryRead.TheVariants.{Fired, Over}
use Rattle.rn_record_reader.specs.declared.fault.RecordFault.{RecordFault}
use Rattle.rn_record_reader.specs.declared.fault.RecordFault.TheVariants.{Q1, Q2, Q3, Q4, NoMemory}
use Rattle.rn_record_reader.specs.declared.opening.Opens.{Opens}
use Rattle.rn_record_reader.specs.declared.opening.Opens.TheVariants.{Firing, Ending, Neither}
use Rattle.rn_record_reader.specs.declared.ends.EndRead.{EndRead}
use Rattle.rn_record_reader.specs.declared.ends.EndRead.TheVariants as Read

-- What a fault tells: the first bad line and why it is bad, unless memory ran out.
abbrev pub FaultTells : (Verdict → Type 0) → RecordFault → Type 0
FaultTells T (Q1 line) = T (Verdict.bad line Form)
FaultTells T (Q2 line) = T (Verdict.bad line Name)
FaultTells T (Q3 line) = T (Verdict.bad line Step)
FaultTells T (Q4 line) = T (Verdict.bad line Many)
FaultTells T (NoMemory _) = ⊤

-- what the code says of what begins
abbrev pub OpensWith : List (Option LineSaid) → Opens → Type 0
OpensWith lines (Firing worker) = opening_of lines ≡ Opening.firing worker
OpensWith lines (Ending e rest) =
    (opening_of lines ≡ Opening.ending e) × (drop 1 lines ≡ lines_in rest.now)
    × (1 + length (lines_in rest.now) ≤ length lines)
OpensWith lines Neither = opening_of lines ≡ Opening.neither

-- what is read of an end
abbrev pub end_verdict : EndRead → Verdict
end_verdict (Read.Told reason marks) = Verdict.tells (End reason ∷ []) marks.items
end_verdict (Read.Bad line refusal) = Verdict.bad line refusal

-- a verdict, with entries before what it tells
abbrev pub with_entries : List Entry → Verdict → Verdict
with_entries [] v = v
with_entries (entry ∷ entries) v = with_entry entry (with_entries entries v)

-- What the code says of an entry, whose first line has this number, with the nets of the instances
-- made before it and after it: whatever is told after a firing is told with it.
abbrev pub EntryTells : ℕ → System → List ℕ → ℕ → ℕ → List (Option LineSaid) → List ℕ → EntryRead →
    Type 0
EntryTells format system made step line lines all (Fired entry count rest) =
    ((v : Verdict) → Tells format system all (step + 1) (line + count) (lines_in rest.now) v →
    Tells format system made step line lines (with_entry entry v))
    × (1 ≤ count) × (count + length (lines_in rest.now) ≤ length lines)
EntryTells format system made step line lines all (Over end) =
    Tells format system made step line lines (end_verdict end)

-- What the code says of a record: a run with its marks, or what its fault tells.
abbrev pub RecordTells : (Verdict → Type 0) → Result Told RecordFault → Type 0
RecordTells T (Ok told) = T (Verdict.tells told.entries told.marks)
RecordTells T (Err fault) = FaultTells T fault
