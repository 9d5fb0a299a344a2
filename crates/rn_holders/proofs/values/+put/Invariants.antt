use Rattle.std.proofs.Common.{take, map}
use Rattle.std.specs.List.{list_any}
use Rattle.rn_model.specs.Liveness.{mentions}
use Rattle.rn_holders.specs.link.Puts.{Puts}
use Rattle.rn_holders.proofs.values.+put.Given as goal

abbrev pub invariant-put_values-loop-value : goal.invariant-put_values-loop-value
invariant-put_values-loop-value l = Puts (λ n. list_any (λ test. test n)
    (map mentions (take l.value-index l.values))) l.initial.numbers.items l.numbers.items
