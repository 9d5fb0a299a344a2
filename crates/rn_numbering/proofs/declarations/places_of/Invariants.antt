-- The places are those of the declarations so far.
use Rattle.std.proofs.Common.{◌≡◌, map, take}
use Rattle.rn_numbered.specs.Numbered.{kind_of, value_of, capacity_of}
use Rattle.rn_numbering.proofs.declarations.places_of.Given as goal

abbrev pub invariant-loop-place : goal.invariant-loop-place
invariant-loop-place l =
    l.made.items
    ≡ map
    (λ p. record {
      name = p.name.text;
      kind = kind_of p.kind;
      initial = map value_of p.initial;
      max = capacity_of p.max;
    })
    (take l.place-index l.places)
