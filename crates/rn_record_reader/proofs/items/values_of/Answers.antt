-- No item is more values than all.
use Rattle.std.proofs.Common.{length, map, take, sym, ap, ◌∙◌, arith}
use Rattle.std.specs.Prelude.{nat_le}
use Rattle.std.proofs.lemmas.Option.{cond_some, none-some}
use Rattle.rn_lines.specs.link.LinesSeen.{item}
use Rattle.rn_lines.specs.LineText.{times_of}
use Rattle.rn_lines.proofs.Digits.{some_within}
use Rattle.rn_record_reader.proofs.HeldValues.{values_are, within}
use Rattle.rn_record_reader.proofs.items.values_of.Goals as goal

pub unreachable-requires : goal.unreachable-requires
unreachable-requires c =
    let x = c.item-item.result in
    let t = times_of (item x) in
    let here = within item c.args.items.now c.loop-item.item-index x c.loop-item-test.true c.item-item.is in
    let few = c.requires in
    none-some t (sym c.in_default.is ∙ c.times_up_to.ensures ∙ some_within 18446744073709551615 t (omega (arith, here, few)))

pub push-requires-clause-room : goal.push-requires-clause-room
push-requires-clause-room c =
    let x = c.item-item.result in
    let t = times_of (item x) in
    let here = within item c.args.items.now c.loop-item.item-index x c.loop-item-test.true c.item-item.is in
    let few = c.requires in
    let size = ap length c.loop-item.invariant ∙ values_are (map item (take c.loop-item.item-index c.args.items.now)) in
    let same = (cond_some (nat_le t 18446744073709551615) t c.in-Some.times (sym (sym c.in-Some.is ∙ c.times_up_to.ensures))).1 in
    omega (arith, here, few, size, same)
