-- By the tokens of the place.
use Rattle.std.proofs.Common.{◌≡◌, ◌∙◌, sym, subst}
use Rattle.std.specs.Prelude.{Contains}
use Rattle.rn_looking.proofs.KindedNodes.{token_of_kind}
use Rattle.rn_looking.proofs.narrowed.narrowed.Goals as goal

pub fewest_passing-requires-clause-tokens : goal.fewest_passing-requires-clause-tokens
fewest_passing-requires-clause-tokens c v held =
    token_of_kind c.args.at.problem.now c.args.at.growing.now c.args.at.node c.args.at.head.now
    c.args.at.transition.now c.requires.at c.args.arc.now c.in-Var.var v c.requires.there
    (sym c.finds_token.ensures ∙ c.if-not-finds_token.false) c.in-Var.is
    (subst (λ ts. Contains ts v) (rw c.in-Some.is at c.tokens_at.ensures) held)
