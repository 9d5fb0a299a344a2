use Rattle.std.proofs.Common.{◌≡◌, take, map}
use Rattle.rn_model.specs.Lists.{ordered_values}
use Rattle.rn_table.proofs.chunk.PlaceChunk.fresh.Given as goal

abbrev pub invariant-loop-place : goal.invariant-loop-place
invariant-loop-place l = map (λ b. b.value) l.bags.items ≡ map (λ p. ordered_values p.initial) (take l.place-index l.places)
