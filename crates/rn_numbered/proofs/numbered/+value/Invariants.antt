-- The values are those of the constants so far.
use Rattle.std.proofs.Common.{◌≡◌, map, take}
use Rattle.rn_numbered.specs.Numbered.{value_of}
use Rattle.rn_numbered.proofs.numbered.+value.Given as goal

abbrev pub invariant-values_of-loop-constant : goal.invariant-values_of-loop-constant
invariant-values_of-loop-constant l = l.made.items ≡ map value_of (take l.constant-index l.constants)
