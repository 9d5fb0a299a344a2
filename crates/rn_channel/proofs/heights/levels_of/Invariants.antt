use Rattle.std.proofs.Common.{◌≡◌, length}
use Rattle.rn_channel.specs.link.Kept.{IsLevel, AreLevelsFrom}
use Rattle.rn_channel.proofs.heights.levels_of.Given as goal

abbrev pub invariant-loop-k : goal.invariant-loop-k
invariant-loop-k l = record {
  many : length l.levels.items ≡ l.k;
  done : AreLevelsFrom l.system 0 l.levels.items;
  next : IsLevel l.system l.k l.level.items;
}
