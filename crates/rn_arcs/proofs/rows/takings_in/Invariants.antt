use Rattle.std.proofs.Common.{◌≡◌}
use Rattle.std.specs.List.{flat_map}
use Rattle.rn_arcs.specs.link.Rows.{taken_rows, cleared_rows}
use Rattle.rn_arcs.proofs.rows.takings_in.Given as goal

abbrev pub invariant-loop-asked : goal.invariant-loop-asked
invariant-loop-asked l =
    (l.taken ≡ flat_map taken_rows l.yielded) × (l.cleared ≡ flat_map cleared_rows l.yielded)
