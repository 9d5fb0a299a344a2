use Rattle.rn_arcs.specs.link.Room.{PlaceHasRoom}
use Rattle.rn_arcs.specs.link.Seats.{seat_inst}
use Rattle.rn_arcs.proofs.EachIndex.{EachBelow}
use Rattle.rn_arcs.proofs.room.Firing.each_has_room.Given as goal

abbrev pub invariant-loop-place : goal.invariant-loop-place
invariant-loop-place l =
    EachBelow (PlaceHasRoom l.self (seat_inst l.seat)) l.places l.place
