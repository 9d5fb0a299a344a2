use Rattle.std.proofs.Common.{◌≡◌, map, take}
use Rattle.rn_translated.specs.Translation.{plain_transition}
use Rattle.rn_translated.proofs.translating.transitions_of.Given as goal

abbrev pub invariant-loop-transition : goal.invariant-loop-transition
invariant-loop-transition l =
    l.plain.items ≡ map (plain_transition l.places) (take l.transition-index l.transitions)
