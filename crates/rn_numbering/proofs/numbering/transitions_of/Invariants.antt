-- The transitions are those of the declarations so far.
use Rattle.std.proofs.Common.{◌≡◌}
use Rattle.rn_numbered.specs.link.NumbersFound.{numbers_by}
use Rattle.rn_numbering.specs.link.Making.{transitions_by}
use Rattle.rn_numbering.proofs.numbering.transitions_of.Given as goal

abbrev pub invariant-loop-t : goal.invariant-loop-t
invariant-loop-t l = l.made.items ≡ transitions_by (numbers_by l.fn.tables) l.count l.yielded
