use Rattle.std.proofs.Common.{take, map}
use Rattle.std.specs.List.{list_any}
use Rattle.rn_model.specs.Liveness.{mentions}
use Rattle.rn_live.specs.link.Marks.{FindsIn}
use Rattle.rn_live.proofs.visiting.+visit.Given as goal

abbrev pub invariant-visit_all-loop-value : goal.invariant-visit_all-loop-value
invariant-visit_all-loop-value l = FindsIn l.table.marking (λ n. list_any (λ test. test n) (map mentions (take l.value-index l.values))) l.initial.found l.found
