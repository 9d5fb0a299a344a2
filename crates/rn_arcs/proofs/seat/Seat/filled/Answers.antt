use Rattle.std.proofs.Common.{rules}
use Rattle.std.proofs.lemmas.Fn.{always_returns_same}
use Rattle.rn_arcs.specs.Demanded.{fill_place}
use Rattle.rn_arcs.specs.Places.{InstPlace, place_cmp}
use Rattle.rn_arcs.specs.link.Seats.{seat_inst}
use Rattle.rn_arcs.specs.declared.demands.Fill.{Fill}
use Rattle.rn_arcs.proofs.SearchedPlaces.{at_found, at_none}
use Rattle.rn_arcs.proofs.seat.Seat.filled.Goals as goal

pub returns-in-Ok : goal.returns-in-Ok
returns-in-Ok c =
    let k : InstPlace = (seat_inst c.args.self.now, c.args.number) in
    at_found fill_place k c.args.fills.now c.requires c.binary_search_by.result c.in-Ok.at
    c.index-fills-at.result c.in-Ok.is c.binary_search_by.ensures.bound
    (c.binary_search_by.ensures.position (λ (x : Fill). place_cmp (fill_place x) k)
    (always_returns_same _ _ _ (λ a r f called. search rules)))
    c.index-fills-at.is

pub returns-in-Err : goal.returns-in-Err
returns-in-Err c =
    let k : InstPlace = (seat_inst c.args.self.now, c.args.number) in
    at_none fill_place k c.args.fills.now c.requires c.binary_search_by.result c.in-Err.field-0
    c.in-Err.is
    (c.binary_search_by.ensures.position (λ (x : Fill). place_cmp (fill_place x) k)
    (always_returns_same _ _ _ (λ a r f called. search rules)))
