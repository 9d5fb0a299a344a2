use Rattle.std.proofs.Common.{take, subst, arith}
use Rattle.std.specs.Prelude.{Contains}
use Rattle.std.proofs.lemmas.List.{take_all}
use Rattle.rn_model.proofs.EnablingLemmas.{not_in_nil}
use Rattle.rn_holders.specs.link.Puts.{Joins}
use Rattle.rn_holders.proofs.ReachingLemmas.{joins_nothing, all_taken}
use Rattle.rn_holders.proofs.backwards.join_all.Goals as goal

pub loop-number-init : goal.loop-number-init
loop-number-init c =
    joins_nothing (Contains (take 0 c.args.those.now)) c.args.found.now.keys
    (λ n has. absurd (not_in_nil n has))

pub loop-number-preserved : goal.loop-number-preserved
loop-number-preserved c =
    all_taken c.args.those.now c.loop-number.number-index c.loop-number-test.true
    c.loop-number.invariant c.in_ok-join.ensures

pub returns : goal.returns
returns c =
    subst (λ ns. Joins (Contains ns) c.args.found.now.keys c.loop-number.found.keys)
    (take_all c.loop-number.number-index c.args.those.now
    (omega (arith, c.loop-number-test.false)))
    c.loop-number.invariant
