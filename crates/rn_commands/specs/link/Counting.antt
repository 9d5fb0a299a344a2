-- The counts of a state whose log has ended.
use Rattle.std.specs.Prelude.{ℕ, ◌≡◌, List, ◌++◌, Some}
use Rattle.rn_model.specs.declared.log.Reason.{Reason}
use Rattle.rn_fire.specs.States.{State}
use Rattle.rn_answering.specs.declared.answer.Answer.{Answer}
use Rattle.rn_commands.specs.Ends.{end_line}
use Rattle.rn_commands.specs.link.Ends.{IsClosedBy}
use Rattle.rn_commands.specs.Counting.{count_lines}

-- the lines of a state whose log has ended, and of these numbers
abbrev pub AreLinesOf : State → List ℕ → List ℕ → Type 0
AreLinesOf s counts text =
    (reason : Reason) × (s.ended ≡ Some reason) × (text ≡ count_lines 0 counts ++ end_line reason)

-- the answer of such a state
abbrev pub IsCountedBy : State → List ℕ → Answer → Type 0
IsCountedBy s counts a = AreLinesOf s counts a.text × IsClosedBy s a.status a.line
