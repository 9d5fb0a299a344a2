use Rattle.std.proofs.Common.{◌≡◌, map, take}
use Rattle.rn_model.specs.Firing.{renamed_value}
use Rattle.rn_lines.specs.link.NodeSeen.{given}
use Rattle.rn_record_reader.specs.Bindings.{unnumbered}
use Rattle.rn_record_reader.proofs.bindings.told_given.Given as goal

abbrev pub invariant-loop-given : goal.invariant-loop-given
invariant-loop-given l =
    l.told.items ≡ map (λ g. renamed_value g.value (unnumbered l.makers l.count))
    (map given (take l.given-index l.all))
