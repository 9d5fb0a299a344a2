use Rattle.std.proofs.Common.{◌≡◌, ℕ, []}
use Rattle.rn_desk.specs.declared.view.SeatRole.TheVariants.{Waits}
use Rattle.rn_desk.specs.Turns.{wrapped}
use Rattle.rn_desk.specs.Steps.{in_role}
use Rattle.rn_desk.proofs.desk.Desk.take.Given as goal

abbrev pub invariant-loop : goal.invariant-loop
invariant-loop g l = (l.pass.seat.table_id ≡ l.fn.pass.seat.table_id)
    × ((t : ℕ) × (wrapped t ≡ l.ticket) × (l.pass.seat.me ≡ (in_role (Waits t) l.fn.pass.seat.me.0, [])))
