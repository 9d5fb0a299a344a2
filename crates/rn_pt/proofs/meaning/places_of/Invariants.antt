use Rattle.std.proofs.Common.{◌≡◌, map, take}
use Rattle.rn_pt.specs.Meaning.{wplace_of}
use Rattle.rn_pt.proofs.meaning.places_of.Given as goal

abbrev pub invariant-loop-place : goal.invariant-loop-place
invariant-loop-place l = l.made.items ≡ map wplace_of (take l.place-index l.places)
