-- The record of a state.
use Rattle.std.specs.Prelude.{ℕ, ◌≡◌, List}
use Rattle.rn_model.specs.declared.log.MarkLine.{MarkLine}
use Rattle.rn_model.specs.Liveness.{LivePart}
use Rattle.rn_record.specs.RecordText.{record_text}
use Rattle.rn_fire.specs.States.{State, end_marking, logged}

-- The bytes are the record of a state, in this format: the text of its log, and of the marks of the live part of the
-- marking at its end.
pub record IsRecordOf (format : ℕ) (s : State) (bytes : List ℕ) : Type 0 where
  pub marks : List MarkLine
  pub live : LivePart s.setup.system (end_marking s) marks
  pub text : bytes
      ≡ record_text format s.setup.system (record { entries = logged s; marks = marks })
