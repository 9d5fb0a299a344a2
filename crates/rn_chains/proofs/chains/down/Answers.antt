-- By the keys of the bucket that were passed.
use Rattle.std.proofs.Common.{◌≡◌, ◌+◌, ◌-◌, arith, subst}
use Rattle.rn_chains.specs.link.Chains.{IsBackTo}
use Rattle.rn_chains.proofs.ChainSteps.{back_first, back_on, back_here, back_none}
use Rattle.rn_chains.proofs.chains.down.Goals as goal

pub loop-at-init : goal.loop-at-init
loop-at-init c = record {
  within = c.requires.within;
  back = λ buckets n few linked is. back_first buckets c.args.key c.args.keys.now n c.args.from is;
}

pub loop-at-preserved : goal.loop-at-preserved
loop-at-preserved c =
    let one : (c.loop-at.at - 1) + 1 ≡ c.loop-at.at = omega arith in
    record {
      within =
          let h = c.requires.back (c.loop-at.at - 1) (omega arith) in
          omega (arith, h);
      back = λ buckets n few linked is.
          back_on buckets c.args.key c.args.keys.now n c.args.befores.now c.loop-at.at
          (c.loop-at.at - 1)
          (c.loop-at.invariant.back buckets n few linked is) one linked few c.if-keys-at.false;
    }

pub returns-then-keys-at : goal.returns-then-keys-at
returns-then-keys-at c buckets n few linked is =
    let one : (c.loop-at.at - 1) + 1 ≡ c.loop-at.at = omega arith in
    back_here buckets c.args.key c.args.keys.now n c.loop-at.at (c.loop-at.at - 1)
    (c.loop-at.invariant.back buckets n few linked is) one c.if-keys-at.true

pub returns : goal.returns
returns c buckets n few linked is =
    let end : c.loop-at.at ≡ 0 = omega arith in
    back_none buckets c.args.key c.args.keys.now n
    (subst (IsBackTo buckets c.args.key c.args.keys.now n) end
    (c.loop-at.invariant.back buckets n few linked is))
