use Rattle.std.proofs.Common.{sym, ◌∙◌, arith}
use Rattle.rn_bag.proofs.SlotIndexLemmas.{next_before, next_after, same_before, tokens_after_past}
use Rattle.rn_bag.proofs.seek.first_token.Goals as goal

pub returns-in-Some-clause-before : goal.returns-in-Some-clause-before
returns-in-Some-clause-before c =
    same_before c.args.chunks.now c.loop-chunk.chunk c.in-Some.first c.loop-chunk.slot c.at.result (omega arith) c.at.ensures.chunk c.in-Some.ensures.before
    ∙ c.loop-chunk.invariant.0

pub loop-chunk-preserved : goal.loop-chunk-preserved
loop-chunk-preserved c = (
  next_before c.args.chunks.now c.loop-chunk.chunk c.loop-chunk.slot c.at.result (omega arith) c.at.ensures.chunk c.in_default.ensures.none ∙ c.loop-chunk.invariant.0,
  next_after c.args.chunks.now c.loop-chunk.chunk c.loop-chunk.slot c.at.result (omega arith) c.at.ensures.chunk c.in_default.ensures.none ∙ c.loop-chunk.invariant.1,
)

pub returns-clause-none : goal.returns-clause-none
returns-clause-none c = sym c.loop-chunk.invariant.1 ∙ tokens_after_past c.args.chunks.now c.loop-chunk.chunk c.loop-chunk.slot (omega arith)
