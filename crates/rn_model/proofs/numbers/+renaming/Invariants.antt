use Rattle.std.proofs.Common.{◌≡◌, take, map}
use Rattle.rn_model.specs.Firing.{renamed_value}
use Rattle.rn_model.specs.Numbers.{numbered_by}
use Rattle.rn_model.proofs.numbers.+renaming.Given as goal

abbrev pub invariant-all_renamed-loop-value : goal.invariant-all_renamed-loop-value
invariant-all_renamed-loop-value l = l.renamed_values.items ≡ map (λ v. renamed_value v (numbered_by l.numbers)) (take l.value-index l.values)
