use Rattle.std.proofs.Common.{◌≡◌, ◌++◌}
use Rattle.rn_arcs.specs.link.Rows.{rows_of}
use Rattle.rn_arcs.proofs.rows.add_rows.Given as goal

abbrev pub invariant-loop-values : goal.invariant-loop-values
invariant-loop-values l = l.rows ≡ l.initial.rows ++ rows_of (l.inst, l.place) l.yielded
