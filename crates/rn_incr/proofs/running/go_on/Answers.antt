-- Each turn adds a firing and its count, or ends the log.
use Rattle.std.proofs.Common.{length, refl, sym, ap, ◌∙◌, subst, arith}
use Rattle.rn_channel.specs.link.Uplinks.{AreUplinksOf}
use Rattle.rn_model.specs.declared.log.Reason.TheVariants.{Memory}
use Rattle.rn_fire.specs.declared.setup.Setup.{Setup}
use Rattle.rn_fire.specs.States.{State}
use Rattle.rn_incr.specs.Counts.{AreCounts}
use Rattle.rn_incr.specs.link.Following.{AdvancesListed}
use Rattle.rn_incr.proofs.RunningLemmas.{count_fired, counts_ended, counts_fired, no_reason, same_reason, same_setup, still_going}
use Rattle.rn_incr.proofs.running.go_on.Goals as goal

pub loop-init : goal.loop-init
loop-init c =
    let s = c.args.state.now in
    record {
      setup = refl;
      going = c.requires.going;
      count = ap length c.requires.begins;
      followed = c.requires.followed;
      counts =
          subst
          (λ fs. AreCounts s.setup.system s.setup.options.depth fs c.args.counts.now.items)
          (sym c.requires.begins) c.requires.counts;
    }

pub step-requires : goal.step-requires
step-requires c =
    let s = c.loop.state in
    let was = c.loop.invariant in
    let count = was.count in
    let steps = c.requires.steps in
    let same = ap (λ (x : Setup). x.options.steps) was.setup in
    let more = c.loop-test.true in
    record {
      own =
          subst (λ (x : Setup). AreUplinksOf x.system c.args.uplinks.now) (sym was.setup)
          c.requires.own;
      going = was.going;
      below = omega (arith, count, steps, same, more);
      followed = was.followed;
    }

pub loop-preserved : goal.loop-preserved
loop-preserved c =
    let s = c.loop.state in
    let new = c.step.new.state in
    let lists = c.step.new.lists in
    let was = c.loop.invariant in
    let fires = subst (λ yes. AdvancesListed s yes new lists) c.if-not-fired.false c.in_ok-fired.ensures in
    let one = count_fired s new fires.0 fires.1 in
    let so_far = was.count in
    record {
      setup = same_setup s new fires.0 fires.1 ∙ was.setup;
      going = still_going s new fires.0 fires.1 was.going;
      count = omega (arith, one, so_far);
      followed = fires.2;
      counts =
          subst (AreCounts new.setup.system new.setup.options.depth new.fired)
          (sym c.in_ok-push.ensures.items)
          (counts_fired s new c.loop.counts.items was.counts fires.0 lists c.count.result
          fires.1 fires.2 (c.count.ensures new.setup.system fires.2.lists));
    }

pub returns-then-not-fired : goal.returns-then-not-fired
returns-then-not-fired c =
    let s = c.loop.state in
    let new = c.step.new.state in
    let lists = c.step.new.lists in
    let was = c.loop.invariant in
    let ends = subst (λ yes. AdvancesListed s yes new lists) c.if-not-fired.true c.in_ok-fired.ensures in
    record {
      setup = ap (λ (x : State). x.setup) ends.2 ∙ was.setup;
      reason = λ memory. ends.1 (same_reason ends.0 Memory (sym (ap (λ (x : State). x.ended) ends.2) ∙ memory));
      all = λ none. absurd (no_reason ends.0 (sym (ap (λ (x : State). x.ended) ends.2) ∙ none));
      counts = counts_ended s new c.loop.counts.items was.counts ends.0 ends.2;
    }

pub returns : goal.returns
returns c =
    let was = c.loop.invariant in
    let count = was.count in
    let steps = c.requires.steps in
    let same = ap (λ (x : Setup). x.options.steps) was.setup in
    let past = c.loop-test.false in
    record {
      setup = was.setup;
      reason = λ memory. no_reason Memory (sym memory ∙ was.going);
      all = λ none. omega (arith, count, steps, same, past);
      counts = was.counts;
    }
