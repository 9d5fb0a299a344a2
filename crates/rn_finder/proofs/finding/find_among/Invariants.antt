use Rattle.std.proofs.Common.{ℕ, ◌≤◌, ◌<◌}
use Rattle.rn_finder.specs.Starting.{IsNoStart, start_of}
use Rattle.rn_finder.proofs.finding.find_among.Given as goal

-- the transitions before this one start nothing
abbrev pub invariant-loop-t : goal.invariant-loop-t
invariant-loop-t g l = (k : ℕ) → l.first.transition ≤ k → k < l.t →
    IsNoStart l.marked.system.now l.marked.table.now.marking l.marked.depth
    (start_of l.first.inst.now.number l.first.inst.now.net k)
