-- By all its nodes, sorted.
use Rattle.std.proofs.Common.{sym, subst}
use Rattle.rn_search.specs.Ending.{IsMadeOf}
use Rattle.rn_branch.proofs.MadeSteps.{binding_made}
use Rattle.rn_branch.proofs.Whole.{unforced}
use Rattle.rn_branch.proofs.made.binding_of.Goals as goal

pub returns-in_default-clause-none : goal.returns-in_default-clause-none
returns-in_default-clause-none c =
    unforced c.args.problem.now c.args.growing.now c.requires.branch c.requires.ends
    (rw c.in_default.is at c.in_ok-nodes.ensures)

pub returns-clause-made : goal.returns-clause-made
returns-clause-made c =
    subst (λ ns. IsMadeOf c.args.problem.now.system c.args.growing.now.decisions
    (record { nodes = ns })) (sym c.from_vec.ensures)
    (binding_made c.args.problem.now c.args.growing.now c.requires.branch c.in-Some.nodes.items
    c.sort_nodes.new.nodes.items (rw c.in-Some.is at c.in_ok-nodes.ensures)
    c.in_ok-sort_nodes.ensures.sorted c.sort_nodes.ensures.same)
