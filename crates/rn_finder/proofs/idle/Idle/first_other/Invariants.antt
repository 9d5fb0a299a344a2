use Rattle.std.proofs.Common.{◌<◌, ◌≤◌, ◌+◌, ◌*◌}
use Rattle.rn_finder.proofs.IdleSets.{AreInFrom}
use Rattle.rn_finder.proofs.idle.Idle.first_other.Given as goal

-- all before a bit of a word are in the set
abbrev pub invariant-loop-at : goal.invariant-loop-at
invariant-loop-at l = record {
  low : l.bit < 64;
  least : l.from ≤ 64 * l.at + l.bit;
  passed : AreInFrom l.self-inside.words.items l.from l.at l.bit;
}
