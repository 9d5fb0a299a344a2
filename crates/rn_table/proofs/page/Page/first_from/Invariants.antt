use Rattle.std.proofs.Common.{◌≤◌, ◌<◌, ◌-◌, length, take, drop}
use Rattle.std.specs.List.{AllByRecursion}
use Rattle.rn_table.proofs.page.Page.first_from.Given as goal

abbrev pub invariant-loop-low : goal.invariant-loop-low
invariant-loop-low l = record {
  ordered : l.low ≤ l.high;
  inside : l.high ≤ length l.self;
  below : AllByRecursion (λ i. i.number < l.number) (take l.low l.self);
  rest : AllByRecursion (λ i. l.number ≤ i.number) (drop l.high l.self);
}

abbrev pub decreases-loop-low : goal.decreases-loop-low
decreases-loop-low l = l.high - l.low
