-- The lines can be numbered, and one more entry is read.
use Rattle.std.proofs.Common.{subst, arith}
use Rattle.rn_record_reader.specs.Lines.{lines_in}
use Rattle.rn_record_reader.specs.link.RunsAhead.{EntryTells}
use Rattle.rn_record_reader.proofs.CountLemmas.{lines_few}
use Rattle.rn_record_reader.proofs.RunLemmas.{one_read}
use Rattle.rn_record_reader.proofs.record.read_lines.Goals as goal

pub next_entry-requires-clause-few : goal.next_entry-requires-clause-few
next_entry-requires-clause-few c =
    omega (arith, c.loop-entries.invariant.few, lines_few c.args.bytes.now, c.requires.few, c.requires.low)

pub overflow_cast-line : goal.overflow_cast-line
overflow_cast-line c =
    let l = c.loop-entries in
    let on = subst (EntryTells c.args.format c.args.system.now l.made.items l.step l.line (lines_in l.rest.now) c.next_entry.new.made.items) c.in-Fired.is c.in_ok-entry.ensures in
    omega (arith, on.2, l.invariant.few, lines_few c.args.bytes.now, c.requires.few, c.requires.low)

pub overflow_add-line : goal.overflow_add-line
overflow_add-line c =
    let l = c.loop-entries in
    let on = subst (EntryTells c.args.format c.args.system.now l.made.items l.step l.line (lines_in l.rest.now) c.next_entry.new.made.items) c.in-Fired.is c.in_ok-entry.ensures in
    omega (arith, on.2, l.invariant.few, lines_few c.args.bytes.now, c.requires.few, c.requires.low)

pub loop-entries-preserved : goal.loop-entries-preserved
loop-entries-preserved c =
    let l = c.loop-entries in
    let on = subst (EntryTells c.args.format c.args.system.now l.made.items l.step l.line (lines_in l.rest.now) c.next_entry.new.made.items) c.in-Fired.is c.in_ok-entry.ensures in
    one_read c.args.format c.args.system.now c.args.first (lines_in c.args.bytes.now) l.entries.items c.push-in-Fired.new.self.items l.made.items
    c.next_entry.new.made.items l.step l.line c.in-Fired.count (lines_in l.rest.now)
    (lines_in c.in-Fired.after.now) c.in-Fired.entry l.invariant on c.in_ok-push-in-Fired.ensures.items
