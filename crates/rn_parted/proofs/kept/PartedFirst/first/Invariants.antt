use Rattle.std.proofs.Common.{◌≡◌, drop}
use Rattle.std.specs.Option.{option_copied}
use Rattle.rn_parted.specs.Lesser.{least_of}
use Rattle.rn_parted.proofs.kept.PartedFirst.first.Given as goal

abbrev pub invariant-loop-share : goal.invariant-loop-share
invariant-loop-share l =
    least_of (option_copied l.first) (drop l.share-index l.share-items)
    ≡ least_of l.self.rest l.share-items
