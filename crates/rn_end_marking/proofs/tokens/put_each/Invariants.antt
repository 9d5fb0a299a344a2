use Rattle.std.proofs.Common.{◌≡◌, take}
use Rattle.std.specs.Prelude.{flat_map}
use Rattle.rn_record.specs.RecordText.{token_text}
use Rattle.rn_spell.specs.Made.{names_of_nets}
use Rattle.rn_window.specs.Windows.{after}
use Rattle.rn_end_marking.proofs.tokens.put_each.Given as goal

abbrev pub invariant-loop-index : goal.invariant-loop-index
invariant-loop-index l = l.window ≡ after l.initial.window (flat_map (token_text (names_of_nets l.names.system.now l.names.nets.now)) (take l.index l.bag))
