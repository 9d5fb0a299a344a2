use Rattle.rn_lines.specs.Reading.{seen_at}
use Rattle.rn_lines.specs.link.Said.{seen}
use Rattle.rn_lines.specs.ValueText.{Begins, most_brackets}
use Rattle.rn_lines.proofs.Beginnings.{seen_reads, seen_read, what_is_found, what_is_there}
use Rattle.rn_lines.proofs.values.read_value.Goals as goal

pub returns : goal.returns
returns c =
    let bytes = c.args.bytes.now in
    record {
      found = what_is_found seen c.seen_at.result (seen_at bytes) (Begins most_brackets bytes) c.seen_at.ensures (seen_read bytes);
      only = λ x begins. what_is_there seen c.seen_at.result (seen_at bytes) x c.seen_at.ensures (seen_reads bytes x begins);
    }
