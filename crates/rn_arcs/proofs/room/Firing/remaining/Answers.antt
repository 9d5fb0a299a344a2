use Rattle.std.proofs.Common.{◌-◌, ◌∙◌, ap}
use Rattle.rn_arcs.specs.Places.{InstPlace}
use Rattle.rn_arcs.specs.link.Seats.{seat_inst}
use Rattle.rn_arcs.proofs.RoomLemmas.{none_remaining, some_remaining}
use Rattle.rn_arcs.proofs.room.Firing.remaining.Goals as goal

pub asked-requires : goal.asked-requires
asked-requires c = c.requires.0

pub returns-in-None : goal.returns-in-None
returns-in-None c =
    let k : InstPlace = (seat_inst c.args.seat.now, c.args.place) in
    none_remaining c.args.self.now.asked.now k c.args.held c.in-None.ensures

pub returns-in-Some : goal.returns-in-Some
returns-in-Some c =
    let k : InstPlace = (seat_inst c.args.seat.now, c.args.place) in
    some_remaining c.args.self.now.asked.now k c.args.held c.in-Some.asked.now
    c.saturating_sub.result c.less_cleared.result c.as_slice.result.now c.in-Some.ensures
    (c.saturating_sub.ensures ∙ ap (λ n. c.args.held - n) c.len.ensures) c.less_cleared.ensures
    c.as_slice.ensures
