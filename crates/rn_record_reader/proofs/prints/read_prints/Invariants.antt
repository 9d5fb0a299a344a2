-- The printed values so far, and those of the lines that are left, are all.
use Rattle.std.proofs.Common.{◌≡◌, length}
use Rattle.rn_record_reader.specs.Lines.{lines_in}
use Rattle.rn_record_reader.specs.Prints.{prints_from}
use Rattle.rn_record_reader.specs.link.PrintsAhead.{with_values}
use Rattle.rn_record_reader.proofs.prints.read_prints.Given as goal

abbrev pub invariant-loop-outs : goal.invariant-loop-outs
invariant-loop-outs l =
    with_values l.outs.items
    (prints_from l.system l.firing.made.now l.firing.step l.firing.worker (lines_in l.rest))
    ≡ prints_from l.system l.firing.made.now l.firing.step l.firing.worker (lines_in l.bytes)

abbrev pub decreases-loop-outs : goal.decreases-loop-outs
decreases-loop-outs l = length l.rest
