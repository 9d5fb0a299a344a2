-- What a record holds of a run can be read again. The law is the contract of a function that does
-- nothing.
use Rattle.std.specs.Prelude.{ℕ, ◌<◌, ◌^◌, List, Option, length}
use Rattle.rn_model.specs.declared.log.MarkLine.{MarkLine}
use Rattle.rn_model.specs.declared.log.Options.{Options}
use Rattle.rn_model.specs.declared.log.Reason.{Reason}
use Rattle.rn_model.specs.declared.system.System.{System}
use Rattle.rn_model.specs.Liveness.{LivePart}
use Rattle.rn_model.specs.Runs.{Firing, Log, end_of, entries_of}
use Rattle.rn_net.specs.declared.plain.Plain.{Plain}
use Rattle.rn_net.specs.Texts.{Spells}
use Rattle.rn_check.specs.Checked.{Checked}
use Rattle.rn_record_reader.specs.Readable.{IsReadableRun}

-- All values of a log of the system that a net text means, and of the marks of what is live at its
-- end, can be read again. The number of a firing is a value too, by `step()`, so there are fewer
-- firings than 2^63.
abbrev pub LogsAreReadable : Type 0
LogsAreReadable = (bytes : List ℕ) (plain : Plain) (system : System) (options : Options)
    (fired : List Firing) (ended : Option Reason) (marks : List MarkLine) →
    Spells bytes plain → Checked plain system → length fired < 2 ^ 63 →
    Log system options fired ended → LivePart system (end_of system fired) marks →
    IsReadableRun (record { entries = entries_of fired ended; marks = marks })
