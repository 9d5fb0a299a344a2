-- what came so far and the rest are all
use Rattle.std.proofs.Common.{◌≡◌, length}
use Rattle.std.specs.Prelude.{flat_map}
use Rattle.rn_value.specs.Text.{escaped}
use Rattle.rn_window.specs.Windows.{after}
use Rattle.rn_spell.proofs.values.put_text.Given as goal

abbrev pub invariant-loop-rest : goal.invariant-loop-rest
invariant-loop-rest l = after l.window (flat_map escaped l.rest) ≡ after l.initial.window (flat_map escaped l.bytes)

abbrev pub decreases-loop-rest : goal.decreases-loop-rest
decreases-loop-rest l = length l.rest
