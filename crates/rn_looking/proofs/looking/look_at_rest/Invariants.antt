use Rattle.rn_looking.specs.Looks.{Looked}
use Rattle.rn_looking.specs.Settling.{AreSettled}
use Rattle.rn_looking.specs.Things.{IsOfEntries}
use Rattle.rn_looking.proofs.looking.look_at_rest.Given as goal

-- what the look at the first decisions came to, and how many of them are settled
abbrev pub invariant-loop-node : goal.invariant-loop-node
invariant-loop-node l = record {
  looked : Looked l.branch.problem.now l.branch.growing.now.decisions
      (IsOfEntries l.branch.growing.now.decisions l.node) l.best;
  settled : AreSettled l.branch.problem.now.system l.branch.growing.now.decisions l.settled;
}
