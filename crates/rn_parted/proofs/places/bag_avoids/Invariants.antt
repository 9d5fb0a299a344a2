use Rattle.rn_parted.proofs.PlaceLemmas.{TokensAvoid}
use Rattle.rn_parted.proofs.places.bag_avoids.Given as goal

abbrev pub invariant-loop-index : goal.invariant-loop-index
invariant-loop-index l = TokensAvoid l.bag l.found.keys l.but l.index
