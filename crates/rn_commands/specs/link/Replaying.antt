-- The answer to a record that is refused.
use Rattle.std.specs.Prelude.{ℕ, ◌≡◌, List, [], codes}
use Rattle.rn_model.specs.declared.system.System.{System}
use Rattle.rn_model.specs.declared.log.Options.{Options}
use Rattle.rn_record_reader.specs.declared.fault.RecordFault.{RecordFault}
use Rattle.rn_record_reader.specs.declared.fault.RecordFault.TheVariants.{Q1, Q2, Q3, Q4}
use Rattle.rn_record_reader.specs.declared.fault.RecordFault.TheVariants as Q
use Rattle.rn_answering.specs.declared.answer.Answer.{Answer}
use Rattle.rn_answering.specs.declared.status.TheConstants.{RECORD_REFUSED}
use Rattle.rn_answering.specs.Refusing.{refusal}
use Rattle.rn_answering.specs.Lines.{number_line}
use Rattle.rn_commands.specs.Replaying.{IsNoRunBy}

-- the line of a record that tells no run; want of memory has none
abbrev pub record_line : RecordFault → List ℕ
record_line (Q1 n) = number_line (codes "Q1") n
record_line (Q2 n) = number_line (codes "Q2") n
record_line (Q3 n) = number_line (codes "Q3") n
record_line (Q4 n) = number_line (codes "Q4") n
record_line (Q.NoMemory _) = []

-- a record is refused
abbrev pub RefusesRecord : ℕ → System → Options → List ℕ → Answer → Type 0
RefusesRecord format system options bytes a =
    (line : List ℕ) × IsNoRunBy format system options bytes line × (a ≡ refusal RECORD_REFUSED line)
