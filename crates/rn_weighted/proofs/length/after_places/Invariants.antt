use Rattle.std.proofs.Common.{◌≡◌, ◌+◌, drop}
use Rattle.std.specs.Prelude.{sum_by}
use Rattle.rn_weighted.specs.TextLength.{place_length}
use Rattle.rn_weighted.proofs.length.after_places.Given as goal

abbrev pub invariant-loop-place : goal.invariant-loop-place
invariant-loop-place l = l.left + sum_by place_length l.places ≡ l.initial.left + sum_by place_length (drop l.place-index l.places)
