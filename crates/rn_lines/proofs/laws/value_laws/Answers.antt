use Rattle.rn_lines.proofs.WrittenValues.{read_are_written, written_are_read}
use Rattle.rn_lines.proofs.laws.value_laws.Goals as goal

pub returns : goal.returns
returns c = record { read = read_are_written; written = written_are_read }
