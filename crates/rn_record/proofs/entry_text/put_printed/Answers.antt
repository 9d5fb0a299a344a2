use Rattle.rn_record.specs.RecordText.{firing_lead, printed_line}
use Rattle.std.specs.List.{flat_map}
use Rattle.rn_window.specs.Windows.{after}
use Rattle.rn_spell.proofs.Pieces.{one_more, all_written}
use Rattle.rn_record.proofs.entry_text.put_printed.Goals as goal

pub loop-value-preserved : goal.loop-value-preserved
loop-value-preserved g c =
    let text = printed_line (g.N.Naming.names c.args.names.now) (firing_lead c.args.lead.now.step c.args.lead.now.worker) in
    one_more text c.args.outs.now c.loop-value.value-index c.value-item.result c.loop-value.window c.put_line.new.window (after c.args.window.now (flat_map text c.args.outs.now)) c.loop-value-test.true c.value-item.is c.loop-value.invariant c.put_line.ensures

pub returns : goal.returns
returns g c =
    let text = printed_line (g.N.Naming.names c.args.names.now) (firing_lead c.args.lead.now.step c.args.lead.now.worker) in
    all_written text c.args.outs.now c.loop-value.value-index c.loop-value.window (after c.args.window.now (flat_map text c.args.outs.now)) c.loop-value-test.false c.loop-value.invariant
