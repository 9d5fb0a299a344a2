-- The lines after the name of the format are no more bytes.
use Rattle.std.proofs.Common.{arith}
use Rattle.rn_record.specs.RecordText.{header_text}
use Rattle.rn_record_reader.proofs.RunLemmas.{rest_short}
use Rattle.rn_record_reader.proofs.record.read_record.Goals as goal

pub read_lines-requires-clause-few : goal.read_lines-requires-clause-few
read_lines-requires-clause-few c =
    let short = rest_short (header_text c.args.format) c.args.bytes.now c.in-Some.rest.now c.in-Some.ensures in
    omega (arith, short, c.requires.few)
