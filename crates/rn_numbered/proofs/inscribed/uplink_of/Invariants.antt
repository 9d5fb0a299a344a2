-- None of the inscriptions so far is an uplink.
use Rattle.std.proofs.Common.{◌≡◌, drop}
use Rattle.std.specs.Prelude.{flat_map}
use Rattle.rn_numbered.specs.Numbered.{uplink_of}
use Rattle.rn_numbered.specs.link.NumbersFound.{numbers_by}
use Rattle.rn_numbered.proofs.inscribed.uplink_of.Given as goal

abbrev pub invariant-loop-inscription : goal.invariant-loop-inscription
invariant-loop-inscription l =
    flat_map (λ i. uplink_of (numbers_by l.fn.tables) i.form) (drop l.inscription-index l.inscriptions)
    ≡ flat_map (λ i. uplink_of (numbers_by l.fn.tables) i.form) l.inscriptions
