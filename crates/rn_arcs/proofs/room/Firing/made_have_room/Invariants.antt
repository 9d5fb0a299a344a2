use Rattle.rn_value.specs.declared.value.InstRef.TheVariants.{New}
use Rattle.rn_arcs.specs.link.Room.{PlacesHaveRoom}
use Rattle.rn_arcs.proofs.EachIndex.{EachBelow}
use Rattle.rn_arcs.proofs.room.Firing.made_have_room.Given as goal

abbrev pub invariant-loop-index : goal.invariant-loop-index
invariant-loop-index l =
    EachBelow (λ j c. PlacesHaveRoom l.self c.net (New l.path j)) l.creations l.index
