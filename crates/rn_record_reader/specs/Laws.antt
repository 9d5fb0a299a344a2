-- Records have one reading, and runs one spelling, which tells them. What a record of format 1 tells
-- is told in format 2 too.
use Rattle.std.specs.Prelude.{◌≡◌, ◌≤◌, ◌⊎◌, ℕ, List, Some, All, length, flat_map}
use Rattle.rn_value.specs.Names.{AreNamed}
use Rattle.rn_model.specs.declared.system.System.{System}
use Rattle.rn_model.specs.declared.log.Entry.{Entry}
use Rattle.rn_model.specs.declared.log.MarkLine.{MarkLine}
use Rattle.rn_model.specs.declared.log.Options.{Options}
use Rattle.rn_model.specs.declared.log.Reason.{Reason}
use Rattle.rn_model.specs.Good.{Good}
use Rattle.rn_model.specs.Limits.{most_workers}
use Rattle.rn_model.specs.Liveness.{LivePart}
use Rattle.rn_model.specs.Runs.{Firing, Log, end_of, entries_of}
use Rattle.rn_record.specs.RecordText.{IsFormat, first_names, names_at_end, record_text}
use Rattle.rn_record.specs.Writable.{HasText}
use Rattle.rn_record_reader.specs.Marks.{most_told_values}
use Rattle.rn_record_reader.specs.Readable.{IsReadableRun}
use Rattle.rn_record_reader.specs.Runs.{Verdict, TellsRecord, longest_record}

-- The bytes of a record tell one thing.
abbrev pub OneReading : Type 0
OneReading = (system : System) (format : ℕ) (bytes : List ℕ) (v w : Verdict) → IsFormat format →
    TellsRecord system format bytes v → TellsRecord system format bytes w → v ≡ w

-- The bytes that tell a run with its marks are the text of it.
abbrev pub OneSpelling : Type 0
OneSpelling = (system : System) (format : ℕ) (bytes : List ℕ) (entries : List Entry)
    (marks : List MarkLine) → Good system → IsFormat format →
    TellsRecord system format bytes (Verdict.tells entries marks) →
    bytes ≡ record_text format system (record { entries = entries; marks = marks })

-- What is told are firings by workers from 1 to 64, and then one end.
abbrev pub TellsWholeRuns : Type 0
TellsWholeRuns = (system : System) (format : ℕ) (bytes : List ℕ) (entries : List Entry)
    (marks : List MarkLine) → IsFormat format →
    TellsRecord system format bytes (Verdict.tells entries marks) →
    (fired : List Firing) × (reason : Reason) × (entries ≡ entries_of fired (Some reason))
    × All (λ f. (1 ≤ f.worker) × (f.worker ≤ most_workers)) fired

-- In format 2 all values of the marks together are few enough to be read again.
abbrev pub HoldsFew : ℕ → List MarkLine → Type 0
HoldsFew format marks =
    (format ≡ 1) ⊎ (length (flat_map (λ line. line.values) marks) ≤ most_told_values)

-- The text of a log that has ended, with the marks of what is live at its end, tells this log with
-- these marks: in a good system, where the values can be read again and aren't too many.
abbrev pub TextsTell : Type 0
TextsTell = (system : System) (format : ℕ) (options : Options) (fired : List Firing) (reason : Reason)
    (marks : List MarkLine) → Good system → IsFormat format → Log system options fired (Some reason) →
    LivePart system (end_of system fired) marks →
    HasText system (record { entries = entries_of fired (Some reason); marks = marks }) →
    IsReadableRun (record { entries = entries_of fired (Some reason); marks = marks }) →
    HoldsFew format marks → TellsRecord system format
    (record_text format system (record { entries = entries_of fired (Some reason); marks = marks }))
    (Verdict.tells (entries_of fired (Some reason)) marks)

-- The marks that a record tells name instances that its firings made.
abbrev pub ToldMarksAreNamed : Type 0
ToldMarksAreNamed = (system : System) (format : ℕ) (bytes : List ℕ) (entries : List Entry)
    (marks : List MarkLine) → Good system → IsFormat format →
    TellsRecord system format bytes (Verdict.tells entries marks) →
    All (λ line. All (AreNamed (names_at_end system first_names entries)) line.values) marks

-- What a record of format 1 tells is told in format 2 too, by its text there: its marks are few
-- enough.
abbrev pub RecordsMigrate : Type 0
RecordsMigrate = (system : System) (bytes : List ℕ) (entries : List Entry) (marks : List MarkLine) →
    Good system → length bytes ≤ longest_record →
    TellsRecord system 1 bytes (Verdict.tells entries marks) →
    TellsRecord system 2 (record_text 2 system (record { entries = entries; marks = marks }))
    (Verdict.tells entries marks)
