-- The answer of a state whose log has ended.
use Rattle.std.specs.Prelude.{ℕ, suc, ◌≡◌, List, Some, length}
use Rattle.rn_model.specs.declared.log.Reason.{Reason}
use Rattle.rn_model.specs.Runs.{Log}
use Rattle.rn_fire.specs.States.{State}
use Rattle.rn_state_record.specs.Written.{IsRecordOf}
use Rattle.rn_answering.specs.declared.answer.Answer.{Answer}
use Rattle.rn_commands.specs.Ends.{end_status, end_message}

-- the status and the line of a state whose log has ended, truly
abbrev pub IsClosedBy : State → ℕ → List ℕ → Type 0
IsClosedBy s status line = (reason : Reason) × (s.ended ≡ Some reason)
    × Log s.setup.system s.setup.options s.fired (Some reason)
    × (status ≡ end_status reason) × (line ≡ end_message reason (suc (length s.fired)))

-- the answer of a run that is written in this format
abbrev pub IsWrittenBy : ℕ → State → Answer → Type 0
IsWrittenBy format s a = IsRecordOf format s a.text × IsClosedBy s a.status a.line
