-- None from here on is of the unknown.
use Rattle.rn_growing.specs.link.Indexed.{IsSought, is_slot}
use Rattle.rn_growing.specs.link.Keys.{unknown_key}
use Rattle.rn_growing.proofs.slots.Slots.id.Given as goal

abbrev pub invariant-loop-left : goal.invariant-loop-left
invariant-loop-left l =
    IsSought l.self-inside.keys (unknown_key l.path l.unknown) (is_slot l.path l.unknown)
    l.self-inside.slots.items l.left

abbrev pub decreases-loop-left : goal.decreases-loop-left
decreases-loop-left l = l.left
