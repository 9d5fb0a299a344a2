use Rattle.rn_lines.proofs.LineForms.{line_read, line_reads}
use Rattle.rn_lines.proofs.laws.lines_are_read_by_their_grammar.Goals as goal

pub returns : goal.returns
returns c = λ x bytes. (line_read bytes x, line_reads)
