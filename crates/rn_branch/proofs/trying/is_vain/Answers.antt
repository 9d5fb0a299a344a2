-- By the point.
use Rattle.std.proofs.Common.{sym, subst}
use Rattle.std.specs.Prelude.{IfOk, IsTrue}
use Rattle.rn_search.specs.Allowing.{Allows}
use Rattle.rn_branch.specs.Offers.{NoneLeadBy}
use Rattle.rn_branch.proofs.trying.is_vain.Goals as goal

pub is_vain_token-requires-clause-allows : goal.is_vain_token-requires-clause-allows
is_vain_token-requires-clause-allows c =
    subst (λ p. Allows c.args.problem.now c.args.growing.now.decisions p c.args.tried.a) c.in-Token.is
    c.requires.allows

pub returns-in-Token-clause-vain : goal.returns-in-Token-clause-vain
returns-in-Token-clause-vain c =
    subst (λ p. IfOk c.is_vain_token.result (λ told. IsTrue told
    → NoneLeadBy c.args.problem.now c.args.growing.now.decisions p c.args.tried.a))
    (sym c.in-Token.is) c.is_vain_token.ensures.vain
