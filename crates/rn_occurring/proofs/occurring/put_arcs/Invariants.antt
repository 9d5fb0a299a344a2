-- What was put, and what is left to put, is all.
use Rattle.std.proofs.Common.{◌≡◌, ◌++◌, drop}
use Rattle.std.specs.Prelude.{flat_map}
use Rattle.rn_occurring.specs.link.OccurringParts.{vars_of_arc}
use Rattle.rn_occurring.proofs.occurring.put_arcs.Given as goal

abbrev pub invariant-loop-arc : goal.invariant-loop-arc
invariant-loop-arc l =
    l.vars.items ++ flat_map (vars_of_arc l.outputs) (drop l.arc-index l.arcs)
    ≡ l.initial.vars.items ++ flat_map (vars_of_arc l.outputs) l.arcs
