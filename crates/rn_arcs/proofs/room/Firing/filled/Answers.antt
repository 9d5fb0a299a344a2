use Rattle.rn_arcs.specs.Places.{InstPlace}
use Rattle.rn_arcs.specs.link.Seats.{seat_inst}
use Rattle.rn_arcs.proofs.RoomLemmas.{none_filled, some_filled}
use Rattle.rn_arcs.proofs.room.Firing.filled.Goals as goal

pub filled-requires : goal.filled-requires
filled-requires c = c.requires.1

pub returns-in-None : goal.returns-in-None
returns-in-None c =
    let k : InstPlace = (seat_inst c.args.seat.now, c.args.place) in
    none_filled c.args.self.now.fills.now k c.in-None.ensures

pub returns-in-Some : goal.returns-in-Some
returns-in-Some c =
    let k : InstPlace = (seat_inst c.args.seat.now, c.args.place) in
    some_filled c.args.self.now.fills.now k c.in-Some.fill.now c.in-Some.ensures
