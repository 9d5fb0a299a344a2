use Rattle.std.proofs.Common.{sym, subst}
use Rattle.rn_bag.specs.link.Chunks.{AreCounted}
use Rattle.rn_bag.proofs.CountLemmas.{counted_prefix}
use Rattle.rn_bag.proofs.edits.put_back.Goals as goal

pub recount-requires-clause-counted : goal.recount-requires-clause-counted
recount-requires-clause-counted c = subst (AreCounted 0 0) (sym c.set_slot.ensures.prefix) (counted_prefix 0 0 c.args.chunks.now c.args.at.chunk c.requires.sound.counted)
