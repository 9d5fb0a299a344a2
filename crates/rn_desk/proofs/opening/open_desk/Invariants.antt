use Rattle.std.proofs.Common.{◌≡◌, ◌≤◌, [], length}
use Rattle.std.specs.Prelude.{vec_capacity}
use Rattle.rn_desk.specs.Steps.{maker}
use Rattle.rn_desk.specs.link.Seats.{IsFresh}
use Rattle.rn_desk.proofs.Numbering.{AllFrom}
use Rattle.rn_desk.proofs.opening.open_desk.Given as goal

abbrev pub invariant-loop : goal.invariant-loop
invariant-loop g l = (l.maker.table_id ≡ l.desk.table.shared.table_id) × (l.maker.me ≡ (maker l.counter (g.S.Kept.fixed l.fn.state), []))
    × AllFrom (λ n p. IsFresh l.desk.table.shared.table_id (g.S.Kept.fixed l.fn.state) n p.seat) 1 l.passes.items
    × (length l.passes.items ≡ l.counter) × (l.seats ≤ vec_capacity l.passes)
