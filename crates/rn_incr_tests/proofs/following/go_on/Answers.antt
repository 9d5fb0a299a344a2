-- Each turn adds a firing.
use Rattle.std.proofs.Common.{length, refl, sym, ap, ◌∙◌, subst, arith}
use Rattle.rn_channel.specs.link.Uplinks.{AreUplinksOf}
use Rattle.rn_fire.specs.declared.setup.Setup.{Setup}
use Rattle.rn_incr.proofs.RunningLemmas.{count_fired, same_setup, still_going}
use Rattle.rn_incr_tests.proofs.following.go_on.Goals as goal

pub loop-k-init : goal.loop-k-init
loop-k-init c = record {
  setup = refl;
  going = c.requires.going;
  count = ap length c.requires.begins;
  followed = c.requires.followed;
}

pub step-requires : goal.step-requires
step-requires c =
    let was = c.loop-k.invariant in
    let count = was.count in
    let steps = c.requires.steps in
    let same = ap (λ (x : Setup). x.options.steps) was.setup in
    let more = c.loop-k-test.true in
    record {
      own =
          subst (λ (x : Setup). AreUplinksOf x.system c.args.uplinks.now) (sym was.setup)
          c.requires.own;
      going = was.going;
      below = omega (arith, count, steps, same, more);
      followed = was.followed;
    }

pub loop-k-preserved : goal.loop-k-preserved
loop-k-preserved c =
    let s = c.loop-k.state in
    let new = c.step.new.state in
    let was = c.loop-k.invariant in
    let fires = c.in_ok-step.ensures c.if-not-branch.false in
    let one = count_fired s new fires.0 fires.1 in
    let so_far = was.count in
    record {
      setup = same_setup s new fires.0 fires.1 ∙ was.setup;
      going = still_going s new fires.0 fires.1 was.going;
      count = omega (arith, one, so_far);
      followed = fires.2;
    }
