-- The token that is known to be found, or none.
use Rattle.std.proofs.Common.{◌≡◌, subst}
use Rattle.std.specs.Prelude.{Some, Contains}
use Rattle.rn_search.specs.Points.{first_token, node_of, tokens_of}
use Rattle.rn_looking.specs.Equating.{IsKnownToken}
use Rattle.rn_looking.proofs.TokenLooks.{finds_no_token, finds_nothing, forces_token}
use Rattle.rn_looking.proofs.arcs.with_token.Goals as goal

pub returns-in-Some-only_token : goal.returns-in-Some-only_token
returns-in-Some-only_token c =
    forces_token c.args.at.problem.now c.args.at.growing.now c.args.at.node c.args.at.head.now
    c.args.at.transition.now c.requires.at c.args.k c.requires.token c.in-Some.value
    c.in-Some-only_token.from
    (subst (IsKnownToken c.args.at.growing.now c.args.at.head.now c.args.at.transition.now c.args.k)
    c.in-Some.is c.requires.known)
    (subst (λ ds. first_token (tokens_of c.args.at.problem.now (node_of c.args.at.problem.now ds
    c.args.at.node) c.args.k) c.in-Some-only_token.from ≡ Some c.in-Some.value)
    c.decisions-decisions.ensures c.in-Some-only_token.ensures.first)

pub returns-in-None : goal.returns-in-None
returns-in-None c =
    finds_no_token c.args.at.problem.now c.args.at.growing.now c.args.at.node c.args.at.head.now
    c.args.at.transition.now c.requires.at c.args.k c.requires.token c.in-Some.value
    (subst (IsKnownToken c.args.at.growing.now c.args.at.head.now c.args.at.transition.now c.args.k)
    c.in-Some.is c.requires.known)
    (subst (λ ds. ¬ Contains (tokens_of c.args.at.problem.now (node_of c.args.at.problem.now ds
    c.args.at.node) c.args.k) c.in-Some.value) c.decisions-decisions.ensures
    c.in-None.ensures.absent)

pub returns-in_default : goal.returns-in_default
returns-in_default c =
    finds_nothing c.args.at.problem.now c.args.at.growing.now c.args.at.node c.args.at.head.now
    c.args.at.transition.now c.requires.at c.args.k c.requires.token
    (subst (IsKnownToken c.args.at.growing.now c.args.at.head.now c.args.at.transition.now c.args.k)
    c.in_default.is c.requires.known)
