use Rattle.std.proofs.Common.{◌≡◌, drop, length}
use Rattle.rn_model.specs.declared.system.System.{System}
use Rattle.rn_channel.specs.link.Kept.{AreLevelsFrom, least_height}
use Rattle.rn_channel.proofs.heights.height_of.Given as goal

abbrev pub invariant-loop-k : goal.invariant-loop-k
invariant-loop-k l = (system : System) → AreLevelsFrom system 0 l.levels →
    AreLevelsFrom system l.k (drop l.k l.levels)
    × (least_height system l.transition 0 (length l.levels)
    ≡ least_height system l.transition l.k (length (drop l.k l.levels)))
