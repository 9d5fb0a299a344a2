use Rattle.std.proofs.Common.{◌≡◌}
use Rattle.rn_arcs.proofs.RowLemmas.{AreRowsOf}
use Rattle.rn_arcs.proofs.rows.rows_in.Given as goal

abbrev pub invariant-loop-asked : goal.invariant-loop-asked
invariant-loop-asked l = AreRowsOf l.yielded l.demands × (l.demands.filled ≡ l.fn.filled)
