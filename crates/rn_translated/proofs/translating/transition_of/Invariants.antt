use Rattle.std.proofs.Common.{◌≡◌, map, take}
use Rattle.rn_translated.specs.Translation.{plain_arc}
use Rattle.rn_translated.proofs.translating.transition_of.Given as goal

abbrev pub invariant-loop-arc : goal.invariant-loop-arc
invariant-loop-arc l = l.inscriptions.items ≡ map (plain_arc l.places) (take l.arc-index l.arc-items)
