use Rattle.std.proofs.Common.{◌+◌, ap, sym, subst, take, arith}
use Rattle.std.proofs.lemmas.List.{take_all}
use Rattle.rn_incr.specs.link.Kept.{some_in, AreNoted, GrowsBy, numbers_of}
use Rattle.rn_incr.proofs.PutLemmas.{noted_one, passed_one}
use Rattle.rn_incr.proofs.busy.note_all.Goals as goal
use Rattle.rn_incr.proofs.busy.note_all.Goals.{then-not-is_empty+in_ok-insert, else-not-is_empty}

pub loop-one-preserved : goal.loop-one-preserved
loop-one-preserved c =
    let fresh = c.args.fresh.now in
    let i = c.loop-one.one-index in
    let one = c.one-item.result in
    let first = c.args.busy.now in
    let before = c.loop-one.busy in
    elim c.if-not-is_empty.branch [
      | then-not-is_empty+in_ok-insert w ↦
          subst (λ b. GrowsBy (numbers_of fresh) first b × AreNoted b (take (i + 1) fresh))
          (sym w.busy-is)
          (noted_one fresh i one c.loop-one-test.true c.one-item.is first before w.insert.new.self
          w.in_ok-insert.ensures.updates c.loop-one.invariant)
      | else-not-is_empty w ↦
          passed_one fresh i one c.loop-one-test.true c.one-item.is first before
          c.if-not-is_empty.busy (ap some_in (c.is_empty.ensures.0 w.if-not-is_empty.false)) w.busy-is c.loop-one.invariant
    ]

pub returns-clause-noted : goal.returns-clause-noted
returns-clause-noted c =
    subst (AreNoted c.loop-one.busy)
    (take_all c.loop-one.one-index c.args.fresh.now (omega (arith, c.loop-one-test.false)))
    c.loop-one.invariant.1
