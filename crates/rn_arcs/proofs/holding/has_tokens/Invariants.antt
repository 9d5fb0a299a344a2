use Rattle.std.proofs.Common.{◌≡◌, take}
use Rattle.rn_arcs.proofs.holding.has_tokens.Given as goal

abbrev pub invariant-loop-index : goal.invariant-loop-index
invariant-loop-index l = take l.index l.values ≡ take l.index l.bag
