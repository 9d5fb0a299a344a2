use Rattle.std.proofs.Common.{◌≡◌, ◌++◌, drop, take}
use Rattle.std.specs.List.{flat_map, list_all}
use Rattle.rn_model.specs.Firing.{output_defined}
use Rattle.rn_acts.specs.link.Acted.{arc_rows}
use Rattle.rn_acts.specs.link.Acting.{env_acting}
use Rattle.rn_acts.proofs.outputs.put_outputs.Given as goal

abbrev pub invariant-loop-arc : goal.invariant-loop-arc
invariant-loop-arc l =
    (l.put ≡ l.initial.put
    ++ flat_map (arc_rows (env_acting l.acting)) (take l.arc-index l.arc-items))
    × (list_all (output_defined l.transition (env_acting l.acting)) (drop l.arc-index l.arc-items)
    ≡ list_all (output_defined l.transition (env_acting l.acting)) l.arc-items)
