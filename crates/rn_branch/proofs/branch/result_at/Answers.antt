-- By the operator applications of the node.
use Rattle.std.proofs.Common.{◌≡◌, ◌∙◌, ap, sym, subst}
use Rattle.std.specs.Prelude.{map}
use Rattle.rn_growing.specs.Decisions.{transition_in}
use Rattle.rn_search.specs.Points.{holes_of, node_of}
use Rattle.rn_binding.specs.link.Applications.{application_of}
use Rattle.rn_branch.proofs.Applied.{applied_on}
use Rattle.rn_looking.proofs.AppliedAt.{applied_within}
use Rattle.rn_branch.proofs.NodesThere.{net_is_there, transition_is_there}
use Rattle.rn_branch.proofs.branch.result_at.Goals as goal

pub transition_in-requires-clause-net : goal.transition_in-requires-clause-net
transition_in-requires-clause-net c =
    net_is_there c.args.problem.now.system c.system.result.now
    (node_of c.args.problem.now c.args.decisions.now c.args.tried.node) c.node_of-head.result.now
    c.args.problem.now.depth c.system.ensures.same c.node_of-head.ensures c.requires.head

pub transition_in-requires-clause-transition : goal.transition_in-requires-clause-transition
transition_in-requires-clause-transition c =
    transition_is_there c.args.problem.now.system c.system.result.now
    (node_of c.args.problem.now c.args.decisions.now c.args.tried.node) c.node_of-head.result.now
    c.args.problem.now.depth c.system.ensures.same c.node_of-head.ensures c.requires.head

pub bounds-applications-tried : goal.bounds-applications-tried
bounds-applications-tried c =
    let entry = c.is_entry.ensures c.if-is_entry.true in
    applied_within c.args.problem.now.system c.args.decisions.now c.args.applications.now
    c.args.tried.node entry.0 entry.1.0 c.requires.applied entry.1.1

pub result_among-requires : goal.result_among-requires
result_among-requires c =
    let t = transition_in c.args.problem.now.system
    (node_of c.args.problem.now c.args.decisions.now c.args.tried.node) in
    subst (λ found. map application_of found ≡ holes_of t) (sym c.as_slice-found.ensures)
    (applied_on c.args.problem.now c.args.decisions.now c.args.applications.now c.args.tried.node
    c.requires.applied (c.is_entry.ensures c.if-is_entry.true)
    c.index-applications-tried.result c.index-applications-tried.is)

pub result_among-requires-2 : goal.result_among-requires-2
result_among-requires-2 c =
    let t = transition_in c.args.problem.now.system
    (node_of c.args.problem.now c.args.decisions.now c.args.tried.node) in
    subst (λ found. map application_of found ≡ holes_of t) (sym c.as_slice.ensures.value)
    (c.in_ok-found.ensures
    ∙ ap holes_of (c.transition_in.ensures
    ∙ ap (λ s. transition_in s c.node_of-head.result.now) c.system.ensures.same
    ∙ ap (transition_in c.args.problem.now.system) c.node_of-head.ensures))
