-- What is left of the path goes into the key.
use Rattle.std.proofs.Common.{◌≡◌, drop}
use Rattle.rn_growing.specs.link.Keys.{all_stirred, path_key}
use Rattle.rn_growing.proofs.keys.path_key.Given as goal

abbrev pub invariant-loop-n : goal.invariant-loop-n
invariant-loop-n l = all_stirred l.key (drop l.n-index l.path) ≡ path_key l.path
