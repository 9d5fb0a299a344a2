use Rattle.std.proofs.Common.{◌+◌, ◌∙◌, refl}
use Rattle.rn_bag.proofs.CountLemmas.{token_read}
use Rattle.rn_bag.proofs.counting.token_at.Goals as goal

pub overflow_sub-index : goal.overflow_sub-index
overflow_sub-index c =
    (token_read c.args.chunks.now c.chunk_of.result (c.chunk_of.result + 1) c.args.index
    c.before-2.result c.at-chunk.result c.requires.counted c.chunk_of.ensures.inside
    c.at-chunk.ensures.chunk refl c.before-2.ensures c.chunk_of.ensures.before
    c.chunk_of.ensures.after).0

pub nth-requires : goal.nth-requires
nth-requires c =
    (token_read c.args.chunks.now c.chunk_of.result (c.chunk_of.result + 1) c.args.index
    c.before-2.result c.at-chunk.result c.requires.counted c.chunk_of.ensures.inside
    c.at-chunk.ensures.chunk refl c.before-2.ensures c.chunk_of.ensures.before
    c.chunk_of.ensures.after).1

pub returns : goal.returns
returns c =
    (token_read c.args.chunks.now c.chunk_of.result (c.chunk_of.result + 1) c.args.index
    c.before-2.result c.at-chunk.result c.requires.counted c.chunk_of.ensures.inside
    c.at-chunk.ensures.chunk refl c.before-2.ensures c.chunk_of.ensures.before
    c.chunk_of.ensures.after).2 ∙ c.nth.ensures
