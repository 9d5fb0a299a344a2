-- What a look is given, and what it says of that. This only connects the code to the definitions.
use Rattle.std.specs.Prelude.{length}
use Rattle.rn_choices.specs.declared.next.Next.TheVariants.{Stuck}
use Rattle.rn_growing.specs.declared.decision.Decision.{Decision}
use Rattle.rn_looking.specs.Branches.{IsLookedAt}
use Rattle.rn_looking.specs.Looks.{GoesOn, Looked}
use Rattle.rn_looking.specs.Things.{IsOfEntries}
use Rattle.rn_looking.specs.declared.look.Look.{Look}
use Rattle.rn_looking.specs.declared.views.BranchView.{BranchView}
use Rattle.rn_looking.specs.declared.views.NodeView.{NodeView}

-- it is a node of a branch, with its transition
abbrev pub IsNodeView : NodeView → Type 0
IsNodeView at =
    IsLookedAt at.problem.now at.growing.now at.node at.head.now at.transition.now

-- the decisions lead to no binding
abbrev pub IsNodeStuck : NodeView → Type 0
IsNodeStuck at = GoesOn at.problem.now at.growing.now.decisions Stuck

-- what a look at some things of the node says
abbrev pub NodeLooked : NodeView → (Decision → Type 0) → Look → Type 0
NodeLooked at = Looked at.problem.now at.growing.now.decisions

-- what a look at all that is asked says
abbrev pub AllLooked : BranchView → Look → Type 0
AllLooked branch =
    Looked branch.problem.now branch.growing.now.decisions
    (IsOfEntries branch.growing.now.decisions (length branch.growing.now.decisions))
