use Rattle.std.proofs.Common.{rules}
use Rattle.std.proofs.lemmas.Fn.{always_returns_same}
use Rattle.rn_arcs.specs.link.Groups.{place_of}
use Rattle.rn_arcs.specs.Places.{InstPlace, place_cmp}
use Rattle.rn_arcs.specs.link.Seats.{seat_inst}
use Rattle.rn_arcs.specs.declared.asked.Asked.{Asked}
use Rattle.rn_arcs.proofs.SearchedPlaces.{at_found, at_none}
use Rattle.rn_arcs.proofs.seat.Seat.asked.Goals as goal

pub returns-in-Ok : goal.returns-in-Ok
returns-in-Ok c =
    let k : InstPlace = (seat_inst c.args.self.now, c.args.number) in
    at_found place_of k c.args.asked.now c.requires c.binary_search_by.result c.in-Ok.at
    c.index-asked-at.result c.in-Ok.is c.binary_search_by.ensures.bound
    (c.binary_search_by.ensures.position (λ (x : Asked). place_cmp (place_of x) k)
    (always_returns_same _ _ _ (λ a r f called. search rules)))
    c.index-asked-at.is

pub returns-in-Err : goal.returns-in-Err
returns-in-Err c =
    let k : InstPlace = (seat_inst c.args.self.now, c.args.number) in
    at_none place_of k c.args.asked.now c.requires c.binary_search_by.result c.in-Err.field-0
    c.in-Err.is
    (c.binary_search_by.ensures.position (λ (x : Asked). place_cmp (place_of x) k)
    (always_returns_same _ _ _ (λ a r f called. search rules)))
