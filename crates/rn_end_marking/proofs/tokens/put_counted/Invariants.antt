use Rattle.std.proofs.Common.{◌≡◌, ◌≤◌, ◌-◌, drop, length}
use Rattle.std.specs.Prelude.{flat_map}
use Rattle.rn_model.specs.Repeats.{repeats_of}
use Rattle.rn_record.specs.RecordText.{item_text}
use Rattle.rn_spell.specs.Made.{names_of_nets}
use Rattle.rn_window.specs.Windows.{after}
use Rattle.rn_end_marking.proofs.tokens.put_counted.Given as goal

abbrev pub invariant-loop-token : goal.invariant-loop-token
invariant-loop-token l =
    let f = item_text (names_of_nets l.names.system.now l.names.nets.now) in
    record {
      within : l.index ≤ length l.bag;
      left : after l.window (flat_map f (repeats_of (drop l.index l.bag)))
          ≡ after l.initial.window (flat_map f (repeats_of l.bag));
    }

abbrev pub decreases-loop-token : goal.decreases-loop-token
decreases-loop-token l = length l.bag - l.index
