use Rattle.std.proofs.Common.{◌≡◌, ◌+◌, ◌++◌, drop}
use Rattle.rn_bag.specs.Slots.{there_from}
use Rattle.rn_bag.specs.Words.{has_bit}
use Rattle.rn_bag.proofs.chunk.copy_there.Given as goal

abbrev pub invariant-loop-i : goal.invariant-loop-i
invariant-loop-i l = l.tokens.items ++ there_from (has_bit l.there) (l.index + l.i) (drop l.i l.values) ≡ l.initial.tokens.items ++ there_from (has_bit l.there) l.index l.values
