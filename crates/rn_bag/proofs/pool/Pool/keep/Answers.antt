use Rattle.std.proofs.Common.{refl, arith}
use Rattle.rn_bag.specs.Words.{has_bit}
use Rattle.rn_bag.proofs.SlotLemmas.{there_whole}
use Rattle.rn_bag.proofs.EditLemmas.{full_chunk}
use Rattle.rn_bag.proofs.pool.Pool.keep.Goals as goal

pub returns-clause-tag : goal.returns-clause-tag
returns-clause-tag c = record {
  last = c.len-at.ensures;
  whole = omega (arith, c.len-count.ensures);
  chunk = full_chunk c.args.tokens.items c.args.tokens.items c.all_below-word.result c.len-count.result refl (omega arith) c.requires c.all_below-word.ensures.each;
  full = there_whole (has_bit c.all_below-word.result) 0 c.args.tokens.items (λ i low high. c.all_below-word.ensures.each i (omega (arith, c.len-count.ensures)));
  first = refl;
}
