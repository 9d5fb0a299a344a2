use Rattle.std.proofs.Common.{◌≡◌, length, take}
use Rattle.rn_bag.specs.link.Tags.{chunks_of, AreTags}
use Rattle.rn_bag.proofs.chunks.Chunks.settled.Given as goal

abbrev pub invariant-loop-i : goal.invariant-loop-i
invariant-loop-i l = record {
  tags : AreTags l.lists.items l.tags.items;
  chunks : chunks_of l.lists.items l.tags.items ≡ chunks_of l.self-inside.pool (take l.i l.self-inside.tags.items);
  size : length l.lists.items ≡ l.i;
}
