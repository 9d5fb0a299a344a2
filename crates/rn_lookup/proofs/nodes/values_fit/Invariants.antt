use Rattle.std.proofs.Common.{◌≡◌, map, drop}
use Rattle.rn_lines.specs.link.NodeSeen.{given}
use Rattle.rn_lookup.specs.Found.{values_fit}
use Rattle.rn_lookup.proofs.nodes.values_fit.Given as goal

abbrev pub invariant-loop-i : goal.invariant-loop-i
invariant-loop-i l =
    values_fit l.net (map given (drop l.i l.all)) (drop l.i l.vars)
    ≡ values_fit l.net (map given l.all) l.vars
