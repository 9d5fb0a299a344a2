-- By the kinds of what is known.
use Rattle.std.proofs.Common.{refl, subst}
use Rattle.rn_looking.specs.Knowing.{known_env}
use Rattle.rn_looking.specs.NodeKinds.{KnowsForced}
use Rattle.rn_looking.proofs.KindedValues.{known_fits}
use Rattle.rn_looking.proofs.equated.known_worth.Goals as goal

pub evaluate-requires-clause-fit : goal.evaluate-requires-clause-fit
evaluate-requires-clause-fit c =
    known_fits c.args.growing.now c.args.head.now c.args.expr.now (known_env c.in-Some.known)
    c.in-Some.known.pairs.items refl c.requires.kinds
    (subst (KnowsForced c.args.growing.now c.args.head.now) c.in-Some.is c.in_ok-known.ensures.forced)
