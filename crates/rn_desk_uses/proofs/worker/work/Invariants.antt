use Rattle.std.proofs.Common.{◌≡◌, ◌+◌, length}
use Rattle.rn_desk.specs.Passes.{number, mine, IsOf, HasNoTurn}
use Rattle.rn_desk_uses.proofs.worker.work.Given as goal

abbrev pub invariant-loop-round : goal.invariant-loop-round
invariant-loop-round g l = IsOf (λ s. s.title) l.desk l.pass × HasNoTurn l.pass × (number l.pass ≡ number l.fn.pass) × (l.tally.worker ≡ l.fn.tally.worker)
    × (l.tally.fired ≡ length (mine l.pass)) × (l.tally.fired + l.tally.refused ≡ l.round)
