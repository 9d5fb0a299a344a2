use Rattle.std.proofs.Common.{◌≡◌}
use Rattle.rn_bag.specs.link.SlotIndices.{tokens_before, tokens_after}
use Rattle.rn_bag.proofs.seek.first_token.Given as goal

abbrev pub invariant-loop-chunk : goal.invariant-loop-chunk
invariant-loop-chunk l = (tokens_before l.chunks l.chunk l.slot ≡ tokens_before l.chunks l.fn.from.chunk l.fn.from.slot) × (tokens_after l.chunks l.chunk l.slot ≡ tokens_after l.chunks l.fn.from.chunk l.fn.from.slot)
