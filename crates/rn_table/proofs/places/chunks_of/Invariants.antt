use Rattle.std.proofs.Common.{◌≡◌, ◌<◌, ◌++◌, length, map}
use Rattle.std.specs.List.{AllByRecursion}
use Rattle.std.specs.Slice.Iter.{chunks_rest, chunks_size}
use Rattle.rn_model.specs.Lists.{ordered_values}
use Rattle.rn_table.specs.link.Chunks.{AreChunks, joined}
use Rattle.rn_table.proofs.places.chunks_of.Given as goal

abbrev pub invariant-loop-piece : goal.invariant-loop-piece
invariant-loop-piece l = record {
  size : chunks_size l.piece-iterator ≡ 32;
  places : joined (map (λ c. c.value) l.chunks.items) ++ map (λ p. ordered_values p.initial) (chunks_rest l.piece-iterator) ≡ map (λ p. ordered_values p.initial) l.places;
  chunks : AreChunks (map (λ c. c.value) l.chunks.items);
  full : 0 < length (chunks_rest l.piece-iterator) → AllByRecursion (λ xs. length xs ≡ 32) (map (λ c. c.value) l.chunks.items);
}
