use Rattle.std.proofs.Common.{◌≡◌, replicate}
use Rattle.std.specs.Prelude.{flat_map}
use Rattle.rn_window.specs.Windows.{after}
use Rattle.rn_record.specs.RecordText.{token_text}
use Rattle.rn_record.proofs.mark_text.put_each.Given as goal

abbrev pub invariant-loop : goal.invariant-loop
invariant-loop g l = l.window ≡ after l.initial.window (flat_map (token_text (g.N.Naming.names l.names)) (replicate l.counter l.repeat.value))
