-- Each log of a good system has a text. The laws are contracts of functions that do nothing.
use Rattle.std.specs.Prelude.{ℕ, List, Option, None}
use Rattle.rn_model.specs.declared.binding.Binding.{Binding}
use Rattle.rn_model.specs.declared.log.MarkLine.{MarkLine}
use Rattle.rn_model.specs.declared.log.Options.{Options}
use Rattle.rn_model.specs.declared.log.Reason.{Reason}
use Rattle.rn_model.specs.declared.system.System.{System}
use Rattle.rn_model.specs.Enabling.{Enabled}
use Rattle.rn_model.specs.Good.{Good}
use Rattle.rn_model.specs.Liveness.{LivePart}
use Rattle.rn_model.specs.Runs.{Firing, Log, Run, end_of, entries_of}
use Rattle.rn_record.specs.RecordText.{first_names, names_at_end}
use Rattle.rn_record.specs.Writable.{HasLines, HasText}

-- a log of a good system has a text, with the live part of the marking at its end
abbrev pub LogsHaveText : Type 0
LogsHaveText = (system : System) (options : Options) (fs : List Firing) (ended : Option Reason)
    (marks : List MarkLine) → Good system → Log system options fs ended →
    LivePart system (end_of system fs) marks →
    HasText system (record { entries = entries_of fs ended; marks = marks })

-- and a binding that is enabled at the end of a run can be written there
abbrev pub EnabledHaveLines : Type 0
EnabledHaveLines = (system : System) (depth : ℕ) (fs : List Firing) (b : Binding) →
    Good system → Run system depth fs → Enabled system (end_of system fs) b depth →
    HasLines system (names_at_end system first_names (entries_of fs None)) b
