use Rattle.std.proofs.Common.{◌≡◌, map, take}
use Rattle.rn_model.specs.Firing.{renamed_value}
use Rattle.rn_record_reader.specs.Bindings.{unnumbered}
use Rattle.rn_record_reader.proofs.bindings.+telling.Given as goal

abbrev pub invariant-told_values-loop-value : goal.invariant-told_values-loop-value
invariant-told_values-loop-value l =
    l.told.items ≡ map (λ v. renamed_value v (unnumbered l.makers l.count)) (take l.value-index l.values)
