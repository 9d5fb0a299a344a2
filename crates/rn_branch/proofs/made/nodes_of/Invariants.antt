-- The nodes so far.
use Rattle.std.proofs.Common.{take}
use Rattle.rn_branch.specs.Making.{AreMadeNodes}
use Rattle.rn_branch.proofs.made.nodes_of.Given as goal

abbrev pub invariant-loop-decision : goal.invariant-loop-decision
invariant-loop-decision l =
    AreMadeNodes l.growing (take l.decision-index l.decision-items) l.nodes.items
