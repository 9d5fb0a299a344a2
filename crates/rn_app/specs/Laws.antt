-- What excludes what, and that texts of runs are read. Each law is a clause of a function that does
-- nothing.
use Rattle.std.specs.Prelude.{ℕ, ◌≡◌, ◌<◌, ◌^◌, List, Some}
use Rattle.rn_model.specs.declared.log.Options.{Options}
use Rattle.rn_model.specs.declared.log.Reason.{Reason}
use Rattle.rn_model.specs.declared.system.System.{System}
use Rattle.rn_model.specs.Runs.{entries_of}
use Rattle.rn_record.specs.RecordText.{IsFormat}
use Rattle.rn_record_reader.specs.Laws.{HoldsFew}
use Rattle.rn_record_reader.specs.Runs.{Verdict, TellsRecord}
use Rattle.rn_answering.specs.NetTexts.{Accepted, AcceptedIn, IsRefusedBy}
use Rattle.rn_commands.specs.Replaying.{IsRecordOfRun}

-- a net text isn't both accepted and refused
abbrev pub AcceptedIsNotRefused : Type 0
AcceptedIsNotRefused = (bytes line : List ℕ) (system : System) → Accepted bytes system →
    IsRefusedBy bytes line → ⊥

-- a net text has one system at most
abbrev pub OneSystemAccepted : Type 0
OneSystemAccepted = (bytes : List ℕ) (s t : System) → Accepted bytes s → Accepted bytes t → s ≡ t

-- a net text is in one notation
abbrev pub OneNotation : Type 0
OneNotation = (bytes : List ℕ) (s t : System) (notation other : ℕ) →
    AcceptedIn notation bytes s → AcceptedIn other bytes t → notation ≡ other

-- the notation of a net text is a format of records
abbrev pub NotationsAreFormats : Type 0
NotationsAreFormats = (bytes : List ℕ) (system : System) (accepted : Accepted bytes system) →
    IsFormat accepted.plain.notation

-- The text of a run of an accepted net text is read as this run: its firings have numbers of 64 bits,
-- and in format 2 its marks aren't too many to be read.
abbrev pub RunIsRead : Type 0
RunIsRead = (net : List ℕ) (system : System) (options : Options) (bytes : List ℕ) (count : ℕ)
    (reason : Reason) (accepted : Accepted net system)
    (run : IsRecordOfRun accepted.plain.notation system options bytes count reason) →
    count < 2 ^ 63 → HoldsFew accepted.plain.notation run.marks →
    TellsRecord system accepted.plain.notation bytes
    (Verdict.tells (entries_of run.firings (Some reason)) run.marks)
