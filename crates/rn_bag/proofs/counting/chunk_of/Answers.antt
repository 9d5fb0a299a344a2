use Rattle.std.proofs.Common.{◌≡◌, ◌<◌, ◌+◌, ◌-◌, ◌/◌, length, take, subst, arith}
use Rattle.rn_bag.proofs.CountLemmas.{counted_at}
use Rattle.rn_bag.specs.link.Chunks.{tokens_in}
use Rattle.rn_bag.proofs.EditLemmas.{read_at}
use Rattle.rn_bag.proofs.counting.chunk_of.Goals as goal

pub loop-high-preserved-then-before-index : goal.loop-high-preserved-then-before-index
loop-high-preserved-then-before-index c =
    let r = read_at c.args.chunks.now (c.loop-high.low + (c.loop-high.high - c.loop-high.low) / 2) (omega arith) in
    let at = counted_at 0 0 c.args.chunks.now (c.loop-high.low + (c.loop-high.high - c.loop-high.low) / 2) r.0 c.requires.counted (omega arith) r.1 in
    let told = c.before-in-loop-high.ensures r.0 r.1 in
    record {
      ordered = omega arith;
      inside = c.loop-high.invariant.inside;
      before = omega (arith, at.0, told);
      after = c.loop-high.invariant.after;
    }

pub loop-high-preserved : goal.loop-high-preserved
loop-high-preserved c =
    let r = read_at c.args.chunks.now (c.loop-high.low + (c.loop-high.high - c.loop-high.low) / 2) (omega arith) in
    let at = counted_at 0 0 c.args.chunks.now (c.loop-high.low + (c.loop-high.high - c.loop-high.low) / 2) r.0 c.requires.counted (omega arith) r.1 in
    let told = c.before-in-loop-high.ensures r.0 r.1 in
    record {
      ordered = omega arith;
      inside = omega arith;
      before = c.loop-high.invariant.before;
      after = omega (arith, at.0, told);
    }

pub returns-clause-after : goal.returns-clause-after
returns-clause-after c =
    let next : c.loop-high.high ≡ c.loop-high.low + 1 = omega (arith, c.loop-high.invariant.ordered) in
    subst (λ k. c.args.index < length (tokens_in (take k c.args.chunks.now))) next
    c.loop-high.invariant.after
