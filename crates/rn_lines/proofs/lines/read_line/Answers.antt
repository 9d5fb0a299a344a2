use Rattle.rn_lines.specs.LineReading.{line_at}
use Rattle.rn_lines.specs.link.LinesSeen.{line}
use Rattle.rn_lines.specs.LineText.{IsLine}
use Rattle.rn_lines.proofs.Beginnings.{what_is_found, what_is_there}
use Rattle.rn_lines.proofs.LineForms.{line_reads, line_read}
use Rattle.rn_lines.proofs.lines.read_line.Goals as goal

pub returns : goal.returns
returns c =
    let bytes = c.args.bytes.now in
    record {
      found = what_is_found line c.line_at.result (line_at bytes) (λ x. IsLine x bytes) c.line_at.ensures (line_read bytes);
      only = λ x is. what_is_there line c.line_at.result (line_at bytes) x c.line_at.ensures (line_reads is);
    }
