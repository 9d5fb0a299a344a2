use Rattle.std.proofs.Common.{◌≡◌, take}
use Rattle.std.specs.Prelude.{flat_map}
use Rattle.rn_pt.specs.Faults.{first_from}
use Rattle.rn_pt.specs.Rules.{place_broken}
use Rattle.rn_pt.proofs.checking.note_places.Given as goal

abbrev pub invariant-loop-place : goal.invariant-loop-place
invariant-loop-place l = l.first.broken ≡ first_from l.initial.first.broken (flat_map place_broken (take l.place-index l.places))
