use Rattle.std.proofs.Common.{◌≡◌, ◌-◌, take, drop}
use Rattle.rn_bag.proofs.bag.Bag.copies.Given as goal

abbrev pub invariant-loop-index : goal.invariant-loop-index
invariant-loop-index l = l.tokens.items ≡ take (l.index - l.fn.start) (drop l.fn.start l.self)
