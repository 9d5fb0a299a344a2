-- One entry after the other.
use Rattle.std.proofs.Common.{◌<◌, ◌≤◌, length, arith}
use Rattle.rn_moves.proofs.Continuing.{all_written, rest_told, step_on}
use Rattle.rn_moves.proofs.writing.put_entries.Goals as goal

pub loop-entry-preserved : goal.loop-entry-preserved
loop-entry-preserved c =
    let entries = c.args.entries.now in
    let i = c.loop-entry.entry-index in
    let within : i < length entries = omega arith in
    let was = c.loop-entry.numbers in
    let now = c.in_ok-numbers.numbers in
    let out = c.loop-entry.out.items in
    let after = c.put_entry.new.out.items in
    record {
      goes = step_on c.args.by.system.now c.args.by.nets.now c.args.by.names.now entries c.args.out.now.items
          was.next was.step now.next now.step i c.entry-item.result out after within c.entry-item.is
          c.loop-entry.invariant.goes c.in_ok-numbers.ensures;
      may = rest_told c.args.by.system.now c.args.by.nets.now c.args.by.names.now entries
          c.args.out.now.items (length c.args.by.names.now) was.next was.step now.next now.step i
          c.entry-item.result out after within c.entry-item.is c.loop-entry.invariant.may
          c.in_ok-numbers.ensures;
    }

pub returns : goal.returns
returns c =
    let past : length c.args.entries.now ≤ c.loop-entry.entry-index = omega arith in
    all_written c.args.by.system.now c.args.by.nets.now c.args.by.names.now c.args.entries.now
    c.args.out.now.items c.loop-entry.numbers.next c.loop-entry.numbers.step
    c.loop-entry.entry-index c.loop-entry.out.items past c.loop-entry.invariant.goes
