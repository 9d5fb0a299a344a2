-- By the decision at the index.
use Rattle.std.proofs.Common.{◌≡◌, ◌∙◌, ◌<◌, ap, sym, subst, length, map}
use Rattle.std.specs.Prelude.{Some, slice_get}
use Rattle.std.proofs.lemmas.Result.{IfOk-weaker}
use Rattle.rn_model.specs.Systems.{net_at}
use Rattle.rn_growing.specs.declared.decision.Decision.TheVariants.{Entered}
use Rattle.rn_growing.specs.Decisions.{transition_in}
use Rattle.rn_growing.proofs.Growth.{at_in}
use Rattle.rn_search.specs.Points.{holes_of}
use Rattle.rn_search.specs.Standing.{IsHead}
use Rattle.rn_binding.specs.link.Applications.{application_of}
use Rattle.rn_looking.specs.Things.{IsOfEntry, IsOfNode}
use Rattle.rn_looking.proofs.AppliedAt.{applied_at, applied_within}
use Rattle.rn_looking.proofs.LookSteps.{looked_part}
use Rattle.rn_looking.proofs.NodeLooks.{entered_at, of_its_node}
use Rattle.rn_looking.proofs.looking.look_at_node.Goals as goal
use Rattle.rn_looking.proofs.looking.look_at_node.Goals.{In-Entered}

-- the node is entered
at_node : (c : In-Entered) → slice_get c.args.branch.growing.now.decisions c.args.node
    ≡ Some (Entered c.in-Entered.head c.in-Entered.field-1)
at_node c =
    entered_at c.args.branch.growing.now.decisions c.decisions.result.now c.args.node
    c.index-decisions-node.result c.in-Entered.head c.in-Entered.field-1 c.decisions.ensures
    c.requires.within c.index-decisions-node.is c.in-Entered.is

its_head : (c : In-Entered) → IsHead c.args.branch.problem.now.system
    c.args.branch.problem.now.depth c.in-Entered.head
its_head c =
    let d = Entered c.in-Entered.head c.in-Entered.field-1 in
    c.requires.branch.sound.heads d
    (at_in c.args.branch.growing.now.decisions c.args.node d (at_node c))

pub transition_in-transition-requires-clause-net : goal.transition_in-transition-requires-clause-net
transition_in-transition-requires-clause-net c =
    subst (λ s. c.in-Entered.head.net < length s.nets) (sym c.system.ensures.same)
    (its_head (goal.at.transition_in-transition-requires-clause-net c).In-Entered).net

pub transition_in-transition-requires-clause-transition :
    goal.transition_in-transition-requires-clause-transition
transition_in-transition-requires-clause-transition c =
    subst (λ s. c.in-Entered.head.transition
    < length (net_at s c.in-Entered.head.net).transitions) (sym c.system.ensures.same)
    (its_head (goal.at.transition_in-transition-requires-clause-transition c).In-Entered).transition

pub bounds-branch-node : goal.bounds-branch-node
bounds-branch-node c =
    applied_within c.args.branch.growing.now.system c.args.branch.growing.now.decisions
    c.args.branch.applications.now c.args.node c.in-Entered.head c.in-Entered.field-1
    c.requires.applied (at_node (goal.at.bounds-branch-node c).In-Entered)

pub look_within-requires-clause-are : goal.look_within-requires-clause-are
look_within-requires-clause-are c =
    subst (λ found. map application_of found ≡ holes_of c.transition_in-transition.result.now)
    (c.index-branch-node.is ∙ sym c.as_slice-found.ensures)
    (applied_at c.args.branch.growing.now.system c.args.branch.growing.now.decisions
    c.args.branch.applications.now c.args.node c.in-Entered.head c.in-Entered.field-1
    c.requires.applied (at_node (goal.at.look_within-requires-clause-are c).In-Entered)
    c.index-branch-node.result c.index-branch-node.is
    ∙ ap holes_of (ap (λ s. transition_in s c.in-Entered.head)
    (c.requires.branch.system ∙ sym c.system.ensures.same)
    ∙ sym c.transition_in-transition.ensures))

pub look_within-requires-clause-at : goal.look_within-requires-clause-at
look_within-requires-clause-at c = record {
  branch = c.requires.branch;
  good = c.system.ensures.good;
  tokens = c.table.ensures.tokens;
  caller = c.in-Entered.field-1;
  at = at_node (goal.at.look_within-requires-clause-at c).In-Entered;
  transition = c.transition_in-transition.ensures
      ∙ ap (λ s. transition_in s c.in-Entered.head) c.system.ensures.same;
}

pub returns : goal.returns
returns c =
    let ds = c.args.branch.growing.now.decisions in
    IfOk-weaker _ _ _ (λ look looked. looked_part c.args.branch.problem.now ds
    (IsOfNode c.in-Entered.head) (IsOfEntry ds c.args.node)
    (of_its_node ds c.args.node c.in-Entered.head c.in-Entered.field-1
    (at_node (goal.at.returns c).In-Entered)) look looked) c.look_within.ensures
