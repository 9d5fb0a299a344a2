use Rattle.rn_record.specs.RecordText.{firing_lead, printed_line}
use Rattle.std.proofs.Common.{◌≡◌, drop}
use Rattle.std.specs.List.{flat_map}
use Rattle.rn_window.specs.Windows.{after}
use Rattle.rn_record.proofs.entry_text.put_printed.Given as goal

-- what is written so far and what is to come are all
abbrev pub invariant-loop-value : goal.invariant-loop-value
invariant-loop-value g l =
    let text = printed_line (g.N.Naming.names l.names) (firing_lead l.lead.step l.lead.worker) in
    after l.window (flat_map text (drop l.value-index l.outs)) ≡ after l.initial.window (flat_map text l.outs)
