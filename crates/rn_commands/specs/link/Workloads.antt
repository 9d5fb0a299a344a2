-- The tally of a state whose log has ended.
use Rattle.std.specs.Prelude.{ℕ, ◌≡◌, ◌-◌, List, ◌++◌, Some, length, codes}
use Rattle.rn_model.specs.declared.log.Reason.{Reason}
use Rattle.rn_answering.specs.declared.answer.Answer.{Answer}
use Rattle.rn_fire.specs.States.{State, end_marking}
use Rattle.rn_commands.specs.link.Ends.{IsClosedBy}
use Rattle.rn_commands.specs.Workloads.{counted_line, tally_text, CountsLive}

-- the four lines of a state whose log has ended
abbrev pub IsTallyOf : State → List ℕ → Type 0
IsTallyOf s text = (reason : Reason) × (live : ℕ) × (s.ended ≡ Some reason)
    × CountsLive s.setup.system (end_marking s) live
    × (text ≡ tally_text (length s.fired) ((end_marking s).next - 1) live reason)

-- the answer of a run that is reported in four lines
abbrev pub IsTalliedBy : State → Answer → Type 0
IsTalliedBy s a = IsTallyOf s a.text × IsClosedBy s a.status a.line

-- the four lines by their numbers and the last of them
abbrev pub tally_lines : ℕ → ℕ → ℕ → List ℕ → List ℕ
tally_lines fired made live end =
    counted_line (codes "steps") fired ++ counted_line (codes "made") made
    ++ counted_line (codes "live") live ++ end
