use Rattle.std.proofs.Common.{◌≡◌, ◌∙◌, ap, sym, subst, refl, length}
use Rattle.rn_arcs.specs.link.Room.{remaining_in, staying}
use Rattle.rn_arcs.specs.link.Seats.{seat_inst}
use Rattle.rn_arcs.specs.declared.seat.Seat.{Seat}
use Rattle.rn_arcs.proofs.RoomLemmas.{there_stays}
use Rattle.rn_arcs.proofs.room.Firing.staying.Goals as goal

pub returns-in-There : goal.returns-in-There
returns-in-There c =
    c.remaining.ensures
    ∙ ap (remaining_in c.args.self.now.asked.now (seat_inst c.args.seat.now, c.args.place))
    c.count.ensures
    ∙ there_stays c.args.self.now c.args.seat.now c.args.place c.args.kept.now _ c.in-There.is

pub returns-in-Made : goal.returns-in-Made
returns-in-Made c =
    c.len.ensures
    ∙ subst (λ (s : Seat). length c.args.kept.now.initial
    ≡ staying c.args.self.now (seat_inst s) c.args.place c.args.kept.now) (sym c.in-Made.is) refl
