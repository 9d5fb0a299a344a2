use Rattle.std.proofs.Common.{◌≤◌, ◌-◌, take, length}
use Rattle.std.specs.List.{list_any}
use Rattle.rn_model.specs.Liveness.{mentions}
use Rattle.rn_live.specs.link.Marks.{FindsIn}
use Rattle.rn_live.proofs.holders.visit_bag.Given as goal

abbrev pub invariant-runs : goal.invariant-runs
invariant-runs l = record {
  within : l.index ≤ length l.bag;
  finds : FindsIn l.table.marking (λ n. list_any (λ token. mentions token n) (take l.index l.bag)) l.initial.found l.found;
}

abbrev pub decreases-runs : goal.decreases-runs
decreases-runs l = length l.bag - l.index
