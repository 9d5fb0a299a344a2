-- The run of a net text, and its text.
use Rattle.std.specs.Prelude.{ℕ, suc, ◌≡◌, ◌≤◌, List, Some, All, length}
use Rattle.rn_model.specs.declared.system.System.{System}
use Rattle.rn_model.specs.declared.log.Options.{Options}
use Rattle.rn_model.specs.declared.log.MarkLine.{MarkLine}
use Rattle.rn_model.specs.declared.log.Reason.{Reason}
use Rattle.rn_model.specs.Runs.{Firing, Log, end_of, entries_of}
use Rattle.rn_model.specs.Liveness.{LivePart}
use Rattle.rn_record.specs.RecordText.{record_text}
use Rattle.rn_answering.specs.declared.answer.Answer.{Answer}
use Rattle.rn_answering.specs.NetTexts.{Accepted}
use Rattle.rn_commands.specs.Ends.{end_status, end_message}

-- the text of these firings, of this end, and of these marks, in this format
abbrev pub run_text : ℕ → System → List Firing → Reason → List MarkLine → List ℕ
run_text format system firings reason marks =
    record_text format system (record { entries = entries_of firings (Some reason); marks = marks })

-- a firing's worker is one of so many
abbrev pub IsOfWorkers : ℕ → Firing → Type 0
IsOfWorkers workers f = (1 ≤ f.worker) × (f.worker ≤ workers)

-- The text is that of a run of the system of these bytes: its firings, from the initial marking, each
-- by one of the workers, its true end, and the marks of what is live then. Its format is the notation
-- of the net text.
pub record IsRunOf (options : Options) (bytes text : List ℕ) (reason : Reason) : Type 0 where
  pub system : System
  pub accepted : Accepted bytes system
  pub firings : List Firing
  pub workers : All (IsOfWorkers options.workers) firings
  pub log : Log system options firings (Some reason)
  pub marks : List MarkLine
  pub live : LivePart system (end_of system firings) marks
  pub told : text ≡ run_text accepted.plain.notation system firings reason marks

-- What `run` comes to on a net text: the text of a run, with the status and the line of its end.
pub record RunsTo (options : Options) (bytes : List ℕ) (a : Answer) : Type 0 where
  pub reason : Reason
  pub run : IsRunOf options bytes a.text reason
  pub status : a.status ≡ end_status reason
  pub line : a.line ≡ end_message reason (suc (length run.firings))
