-- What is made, and what the inscriptions that are left give, is all.
use Rattle.std.proofs.Common.{◌≡◌, ◌++◌, drop}
use Rattle.std.specs.Prelude.{flat_map}
use Rattle.rn_numbered.specs.Numbered.{action_of}
use Rattle.rn_numbered.specs.link.NumbersFound.{numbers_by}
use Rattle.rn_numbered.proofs.inscribed.actions_of.Given as goal

abbrev pub invariant-loop-inscription : goal.invariant-loop-inscription
invariant-loop-inscription l =
    l.made.items
    ++ flat_map (λ i. action_of (numbers_by l.fn.tables) i.form) (drop l.inscription-index l.inscriptions)
    ≡ flat_map (λ i. action_of (numbers_by l.fn.tables) i.form) l.inscriptions
