use Rattle.std.proofs.Common.{ℕ, List, map, take, ◌+◌, arith}
use Rattle.std.specs.List.{list_any}
use Rattle.rn_value.specs.declared.value.Value.{Value}
use Rattle.rn_model.specs.Liveness.{mentions}
use Rattle.rn_live.proofs.FindLemmas.{then, through}
use Rattle.rn_live.proofs.TokenLemmas.{one_more_mapped}
use Rattle.rn_live.proofs.visiting.+visit.Goals as goal

pub visit_all-loop-value-preserved : goal.visit_all-loop-value-preserved
visit_all-loop-value-preserved t c =
    let m = c.args.table.now.marking in
    let values = c.args.values.now in
    let i = c.loop-value.value-index in
    let value = c.value-item.result in
    then m (λ n. list_any (λ test. test n) (map mentions (take i values))) (mentions value) (λ n. list_any (λ test. test n) (map mentions (take (i + 1) values)))
    (one_more_mapped mentions values i value c.loop-value-test.true c.value-item.is) c.loop-value.invariant c.visit.ensures

pub visit_all-returns : goal.visit_all-returns
visit_all-returns t c =
    through c.args.table.now.marking (λ (values : List Value) (n : ℕ). list_any (λ test. test n) (map mentions values)) c.args.values.now c.loop-value.value-index (omega (arith, c.loop-value-test.false)) c.loop-value.invariant
