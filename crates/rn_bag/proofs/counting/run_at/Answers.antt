use Rattle.std.proofs.Common.{◌+◌, ◌∙◌, length, refl}
use Rattle.rn_bag.proofs.CountLemmas.{run_read, token_read}
use Rattle.rn_bag.proofs.counting.run_at.Goals as goal

pub overflow_sub-index : goal.overflow_sub-index
overflow_sub-index c =
    (token_read c.args.chunks.now c.chunk_of.result (c.chunk_of.result + 1) c.args.index
    c.before-2.result c.at-chunk.result c.requires.counted c.chunk_of.ensures.inside
    c.at-chunk.ensures.chunk refl c.before-2.ensures c.chunk_of.ensures.before
    c.chunk_of.ensures.after).0

pub run_from-requires : goal.run_from-requires
run_from-requires c =
    (token_read c.args.chunks.now c.chunk_of.result (c.chunk_of.result + 1) c.args.index
    c.before-2.result c.at-chunk.result c.requires.counted c.chunk_of.ensures.inside
    c.at-chunk.ensures.chunk refl c.before-2.ensures c.chunk_of.ensures.before
    c.chunk_of.ensures.after).1

pub returns-clause-bound : goal.returns-clause-bound
returns-clause-bound c =
    (run_read c.args.chunks.now c.chunk_of.result c.args.index c.before-2.result
    (length c.run_from.result.now) c.at-chunk.result c.requires.counted c.chunk_of.ensures.inside
    c.at-chunk.ensures.chunk c.before-2.ensures c.chunk_of.ensures.before c.run_from.ensures.bound).0

pub returns-clause-tokens : goal.returns-clause-tokens
returns-clause-tokens c k within =
    (run_read c.args.chunks.now c.chunk_of.result c.args.index c.before-2.result
    (length c.run_from.result.now) c.at-chunk.result c.requires.counted c.chunk_of.ensures.inside
    c.at-chunk.ensures.chunk c.before-2.ensures c.chunk_of.ensures.before c.run_from.ensures.bound).1 k within
    ∙ c.run_from.ensures.tokens k within
