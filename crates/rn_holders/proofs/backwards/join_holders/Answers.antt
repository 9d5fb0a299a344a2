use Rattle.std.proofs.Common.{take, subst, arith}
use Rattle.std.specs.Prelude.{Contains}
use Rattle.std.proofs.lemmas.List.{take_all}
use Rattle.rn_model.proofs.EnablingLemmas.{not_in_nil}
use Rattle.rn_reach.specs.Reach.{RefersTo}
use Rattle.rn_holders.specs.link.Puts.{Joins}
use Rattle.rn_holders.proofs.ReachingLemmas.{joins_nothing, joins_taken}
use Rattle.rn_holders.proofs.backwards.join_holders.Goals as goal

pub loop-holder-init : goal.loop-holder-init
loop-holder-init c =
    joins_nothing
    (λ n. Contains (take 0 c.args.holders.now) n × RefersTo c.args.table.now.marking n c.args.number)
    c.args.found.now.keys (λ n has. absurd (not_in_nil n has.0))

pub loop-holder-preserved : goal.loop-holder-preserved
loop-holder-preserved c =
    joins_taken c.args.holders.now c.loop-holder.holder-index c.loop-holder-test.true
    (λ n. RefersTo c.args.table.now.marking n c.args.number) c.loop-holder.invariant
    c.in_ok-join_holder.ensures

pub returns : goal.returns
returns c =
    subst
    (λ ns. Joins (λ n. Contains ns n × RefersTo c.args.table.now.marking n c.args.number)
    c.args.found.now.keys c.loop-holder.found.keys)
    (take_all c.loop-holder.holder-index c.args.holders.now
    (omega (arith, c.loop-holder-test.false)))
    c.loop-holder.invariant
