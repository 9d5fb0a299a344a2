use Rattle.std.proofs.Common.{ℕ, List, map, take, ◌+◌, arith}
use Rattle.std.specs.List.{list_any}
use Rattle.rn_value.specs.declared.value.Value.{Value}
use Rattle.rn_model.specs.Liveness.{mentions}
use Rattle.rn_live.proofs.TokenLemmas.{one_more_mapped}
use Rattle.rn_holders.proofs.PutLemmas.{then, through}
use Rattle.rn_holders.proofs.values.+put.Goals as goal

pub put_values-loop-value-preserved : goal.put_values-loop-value-preserved
put_values-loop-value-preserved t c =
    let values = c.args.values.now in
    let i = c.loop-value.value-index in
    let value = c.value-item.result in
    then (λ n. list_any (λ test. test n) (map mentions (take i values))) (mentions value)
    (λ n. list_any (λ test. test n) (map mentions (take (i + 1) values)))
    (one_more_mapped mentions values i value c.loop-value-test.true c.value-item.is) c.loop-value.invariant c.in_ok-put_value.ensures

pub put_values-returns : goal.put_values-returns
put_values-returns t c =
    through (λ (values : List Value) (n : ℕ). list_any (λ test. test n)
    (map mentions values)) c.args.values.now c.loop-value.value-index
    (omega (arith, c.loop-value-test.false)) c.loop-value.invariant
