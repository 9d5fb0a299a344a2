-- By the kinds of the node's variables, and of the token.
use Rattle.std.proofs.Common.{◌∷◌, ◌∙◌, ap, sym}
use Rattle.std.specs.Option.{option_copied}
use Rattle.rn_branch.proofs.TrialKinds.{trial_fits}
use Rattle.rn_branch.proofs.testing.fails.Goals as goal

pub is_true-requires-clause-fit : goal.is_true-requires-clause-fit
is_true-requires-clause-fit c =
    trial_fits c.args.growing.now c.args.offer.now.head.now c.args.offer.now.transition.now
    c.args.var c.args.offer.now.token.now c.args.test.now c.in-Some.guard.now c.requires.node
    c.requires.token c.requires.of (sym c.get.ensures.value ∙ ap option_copied c.in-Some.is)
    c.requires.test _ (ap (λ os. (c.args.var, c.args.offer.now.token.now) ∷ os)
    c.as_slice.ensures.value)
