-- The marks are no more than the lines.
use Rattle.std.proofs.Common.{arith}
use Rattle.rn_record_reader.specs.Lines.{lines_in}
use Rattle.rn_record_reader.proofs.CountLemmas.{marks_few}
use Rattle.rn_record_reader.proofs.ends.with_marks.Goals as goal

pub overflow_cast-result : goal.overflow_cast-result
overflow_cast-result c =
    let few = marks_few c.args.by.reader.format c.args.by.reader.system.now c.args.by.made.now 0 (lines_in c.args.bytes.now) c.in_ok-read.read.marks.items c.in_ok-read.read.refusal c.in_ok-read.ensures in
    omega (arith, few, c.len.ensures, c.requires.few)

pub overflow_add-result : goal.overflow_add-result
overflow_add-result c =
    let few = marks_few c.args.by.reader.format c.args.by.reader.system.now c.args.by.made.now 0 (lines_in c.args.bytes.now) c.in_ok-read.read.marks.items c.in_ok-read.read.refusal c.in_ok-read.ensures in
    omega (arith, few, c.len.ensures, c.requires.few)
