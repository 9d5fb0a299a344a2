-- those so far stand for themselves
use Rattle.std.proofs.Common.{◌≡◌, take}
use Rattle.std.specs.Prelude.{flat_map}
use Rattle.rn_value.specs.Text.{escaped}
use Rattle.rn_spell.proofs.values.plain_count.Given as goal

abbrev pub invariant-loop-i : goal.invariant-loop-i
invariant-loop-i l = flat_map escaped (take l.i l.bytes) ≡ take l.i l.bytes
