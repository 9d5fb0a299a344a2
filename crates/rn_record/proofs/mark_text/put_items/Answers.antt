use Rattle.rn_record.specs.RecordText.{item_text}
use Rattle.std.specs.List.{flat_map}
use Rattle.rn_window.specs.Windows.{after}
use Rattle.rn_spell.proofs.Pieces.{one_more, all_written}
use Rattle.rn_record.proofs.mark_text.put_items.Goals as goal

pub loop-repeat-preserved : goal.loop-repeat-preserved
loop-repeat-preserved g c =
    let text = item_text (g.N.Naming.names c.args.names.now) in
    one_more text c.args.repeats.now c.loop-repeat.repeat-index c.repeat-item.result c.loop-repeat.window c.put_item.new.window (after c.args.window.now (flat_map text c.args.repeats.now)) c.loop-repeat-test.true c.repeat-item.is c.loop-repeat.invariant c.put_item.ensures

pub returns : goal.returns
returns g c =
    let text = item_text (g.N.Naming.names c.args.names.now) in
    all_written text c.args.repeats.now c.loop-repeat.repeat-index c.loop-repeat.window (after c.args.window.now (flat_map text c.args.repeats.now)) c.loop-repeat-test.false c.loop-repeat.invariant
