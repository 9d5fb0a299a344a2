use Rattle.std.proofs.Common.{◌∙◌, sym, refl, length}
use Rattle.std.proofs.lemmas.Bool.{false≢true}
use Rattle.std.proofs.lemmas.Option.{slice_get_read}
use Rattle.rn_arcs.specs.link.Room.{PlaceHasRoom}
use Rattle.rn_arcs.specs.link.Seats.{seat_inst}
use Rattle.rn_arcs.proofs.EachIndex.{below_next, one_fails, all_hold}
use Rattle.rn_arcs.proofs.room.Firing.each_has_room.Goals as goal

pub returns-then-not-place_has_room : goal.returns-then-not-place_has_room
returns-then-not-place_has_room c =
    let ps = c.args.places.now in
    let i = c.loop-place.place in
    one_fails (PlaceHasRoom c.args.self.now (seat_inst c.args.seat.now)) ps i
    c.index-places-place.result
    (slice_get_read ps (length ps) i c.index-places-place.result refl c.loop-place-test.true
    c.index-places-place.is)
    (λ here. false≢true
    (sym c.if-not-place_has_room.true ∙ c.place_has_room.ensures.1 here))

pub loop-place-preserved : goal.loop-place-preserved
loop-place-preserved c =
    let ps = c.args.places.now in
    let i = c.loop-place.place in
    below_next (PlaceHasRoom c.args.self.now (seat_inst c.args.seat.now)) ps i
    c.index-places-place.result
    (slice_get_read ps (length ps) i c.index-places-place.result refl c.loop-place-test.true
    c.index-places-place.is)
    c.loop-place.invariant (c.place_has_room.ensures.0 c.if-not-place_has_room.false)

pub returns : goal.returns
returns c =
    all_hold (PlaceHasRoom c.args.self.now (seat_inst c.args.seat.now)) c.args.places.now
    c.loop-place.place c.loop-place-test.false c.loop-place.invariant
