use Rattle.rn_record.specs.RecordText.{item_text}
use Rattle.std.proofs.Common.{◌≡◌, drop}
use Rattle.std.specs.List.{flat_map}
use Rattle.rn_window.specs.Windows.{after}
use Rattle.rn_record.proofs.mark_text.put_items.Given as goal

-- what is written so far and what is to come are all
abbrev pub invariant-loop-repeat : goal.invariant-loop-repeat
invariant-loop-repeat g l =
    let text = item_text (g.N.Naming.names l.names) in
    after l.window (flat_map text (drop l.repeat-index l.repeats)) ≡ after l.initial.window (flat_map text l.repeats)
