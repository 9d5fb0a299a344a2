use Rattle.std.proofs.Common.{◌≡◌, take}
use Rattle.rn_bag.specs.link.Chunks.{tokens_in}
use Rattle.rn_bag.proofs.bag.Bag.sorted_list.Given as goal

abbrev pub invariant-loop-index : goal.invariant-loop-index
invariant-loop-index l = l.tokens.items ≡ tokens_in (take l.index l.self-inside.chunks)
