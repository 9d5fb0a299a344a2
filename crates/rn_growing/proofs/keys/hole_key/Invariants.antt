-- What is left of the way goes into the key.
use Rattle.std.proofs.Common.{◌≡◌, drop}
use Rattle.rn_growing.specs.link.Keys.{all_stirred, hole_key}
use Rattle.rn_growing.proofs.keys.hole_key.Given as goal

abbrev pub invariant-loop-n : goal.invariant-loop-n
invariant-loop-n l = all_stirred l.key (drop l.n-index l.way) ≡ hole_key l.path l.fn.site l.way
