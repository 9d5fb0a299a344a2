-- The patterns, whether there are capacities, and what was reported, are those of the places so
-- far.
use Rattle.std.proofs.Common.{◌≡◌, map, take}
use Rattle.std.specs.Prelude.{flat_map, is_some}
use Rattle.rn_declared.specs.Faults.{first_from}
use Rattle.rn_declared.specs.Patterns.{pattern_of}
use Rattle.rn_declared.specs.Declarations.{place_faults}
use Rattle.rn_declared.proofs.places.declare_places.Given as goal

abbrev pub invariant-loop-place : goal.invariant-loop-place
invariant-loop-place l = record {
  patterns : l.patterns.items ≡ map (λ p. pattern_of p.kind) (take l.place-index l.places);
  capped : l.capped.items ≡ map (λ p. is_some p.max) (take l.place-index l.places);
  told : l.first.fault ≡ first_from l.initial.first.fault (flat_map place_faults (take l.place-index l.places));
}
