use Rattle.std.proofs.Common.{◌≡◌, ℕ, ◌++◌, ◌∷◌, map, length}
use Rattle.rn_desk.specs.declared.view.SeatRole.TheVariants.{Idle}
use Rattle.rn_desk.specs.link.Seats.{IsBack}
use Rattle.rn_desk.proofs.Numbering.{AllFrom}
use Rattle.rn_desk.proofs.closing.close.Given as goal

abbrev pub invariant-loop-rest : goal.invariant-loop-rest
invariant-loop-rest g l = (l.whole.table_id ≡ l.desk.table.shared.table_id) × (l.whole.me.0.role ≡ Idle)
    × ((n : ℕ) × AllFrom (λ n p. IsBack l.desk.table.shared.table_id (g.S.Kept.fixed l.desk.table.shared.key.state.value) n p.seat) n l.rest.items)
    × ((l.whole.me.0.own ∷ l.whole.me.0.others) ++ map (λ p. p.seat.me.0.own) l.rest.items ≡ map (λ p. p.seat.me.0.own) l.fn.passes.items)

abbrev pub decreases-loop-rest : goal.decreases-loop-rest
decreases-loop-rest g l = length l.rest.items
