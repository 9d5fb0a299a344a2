use Rattle.std.proofs.Common.{◌≡◌, ◌<◌, ◌∙◌, length, true, subst, arith}
use Rattle.std.proofs.lemmas.List.{get_or_default}
use Rattle.rn_bag.specs.Words.{has_bit}
use Rattle.rn_finder.specs.Idle.{IsIn}
use Rattle.rn_finder.proofs.IdleSets.{in_from_first, in_from_more, in_from_next}
use Rattle.rn_finder.proofs.idle.Idle.first_other.Goals as goal

pub loop-at-init : goal.loop-at-init
loop-at-init c = record {
  low = omega arith;
  least = omega arith;
  passed = in_from_first c.self.inside.words.items c.args.from;
}

pub loop-at-preserved : goal.loop-at-preserved
loop-at-preserved c =
    let ws = c.self.inside.words.items in
    let at = c.loop-at.at in
    let within : at < length ws = omega (arith, c.loop-at-test.true, c.len-at-end.ensures) in
    let is = c.index.ensures ∙ get_or_default ws at c.index.result.now 0 within in
    let here = c.first_absent_from-other.ensures in
    let past = c.if-other-lt-ROOM.false in
    let least = c.loop-at.invariant.least in
    let low = c.loop-at.invariant.low in
    record {
      low = omega arith;
      least = omega (arith, least, low);
      passed = in_from_next ws c.args.from at
          (in_from_more ws c.args.from at c.loop-at.bit 64 (omega arith) c.loop-at.invariant.passed
          (λ i from to. subst (λ w. has_bit w i ≡ true) is (here.present i from (omega (arith, past, to)))));
    }

pub returns-then-other-lt-ROOM-clause-later : goal.returns-then-other-lt-ROOM-clause-later
returns-then-other-lt-ROOM-clause-later c =
    let least = c.loop-at.invariant.least in
    let later = c.first_absent_from-other.ensures.later in
    c.number_at.ensures.least c.args.from (omega (arith, c.ranges.from.fits))
    (omega (arith, least, later))

pub returns-then-other-lt-ROOM-clause-passed : goal.returns-then-other-lt-ROOM-clause-passed
returns-then-other-lt-ROOM-clause-passed c n least below =
    let ws = c.self.inside.words.items in
    let at = c.loop-at.at in
    let within : at < length ws = omega (arith, c.loop-at-test.true, c.len-at-end.ensures) in
    let is = c.index.ensures ∙ get_or_default ws at c.index.result.now 0 within in
    let here = c.first_absent_from-other.ensures in
    let most = c.number_at.ensures.most in
    subst (λ xs. IsIn xs n) c.self.view_is
    (in_from_more ws c.args.from at c.loop-at.bit c.first_absent_from-other.result here.bound
    c.loop-at.invariant.passed
    (λ i from to. subst (λ w. has_bit w i ≡ true) is (here.present i from to))
    n least (omega (arith, below, most)))
