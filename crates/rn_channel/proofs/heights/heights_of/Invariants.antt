use Rattle.std.proofs.Common.{◌≡◌, take, map, length}
use Rattle.rn_model.specs.declared.system.System.{System}
use Rattle.rn_channel.specs.link.Kept.{AreLevelsFrom, least_height}
use Rattle.rn_channel.proofs.heights.heights_of.Given as goal

abbrev pub invariant-loop-transition : goal.invariant-loop-transition
invariant-loop-transition l = (system : System) → AreLevelsFrom system 0 l.levels →
    l.heights.items
    ≡ map (λ t. least_height system t 0 (length l.levels)) (take l.transition-index l.net.transitions)
