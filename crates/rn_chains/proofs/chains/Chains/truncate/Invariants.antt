-- The keys so far begin as they did.
use Rattle.std.proofs.Common.{◌≡◌, length, take}
use Rattle.rn_chains.proofs.chains.Chains.truncate.Given as goal

abbrev pub invariant-loop-self : goal.invariant-loop-self
invariant-loop-self l = take l.to l.self ≡ take l.to l.initial.self

abbrev pub decreases-loop-self : goal.decreases-loop-self
decreases-loop-self l = length l.self
