-- By the kinds of what is known.
use Rattle.std.proofs.Common.{refl, subst}
use Rattle.rn_looking.specs.Knowing.{known_env}
use Rattle.rn_looking.specs.NodeKinds.{KnowsForced}
use Rattle.rn_looking.proofs.KindedValues.{guard_fits}
use Rattle.rn_looking.proofs.guards.test_guard.Goals as goal

pub is_true-requires-clause-fit : goal.is_true-requires-clause-fit
is_true-requires-clause-fit c =
    guard_fits c.args.growing.now c.args.head.now c.args.guard.now (known_env c.in-Some.known)
    c.in-Some.known.pairs.items refl c.requires.kinds
    (subst (KnowsForced c.args.growing.now c.args.head.now) c.in-Some.is c.in_ok-known.ensures.forced)
