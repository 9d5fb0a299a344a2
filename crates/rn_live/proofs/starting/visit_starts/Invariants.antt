use Rattle.rn_live.specs.link.Marks.{FindsIn, is_start_below}
use Rattle.rn_live.proofs.starting.visit_starts.Given as goal

abbrev pub invariant-loop-number : goal.invariant-loop-number
invariant-loop-number l = FindsIn l.table.marking (is_start_below l.table.marking l.starting l.number) l.initial.found l.found
