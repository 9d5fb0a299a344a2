use Rattle.rn_looking.specs.Branches.{IsBranchOf}
use Rattle.rn_search.specs.Room.{room}
use Rattle.rn_finder.proofs.StraightSearch.{AllLed}
use Rattle.rn_finder.proofs.straight.go_straight.Given as goal

-- all that is looked for follows the decisions
abbrev pub invariant-steps : goal.invariant-steps
invariant-steps l = IsBranchOf l.problem l.branch × AllLed l.problem l.branch.decisions

abbrev pub decreases-steps : goal.decreases-steps
decreases-steps l = room l.problem.system l.problem.depth l.branch.decisions
