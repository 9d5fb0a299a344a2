use Rattle.std.proofs.Common.{◌<◌, length}
use Rattle.rn_term.proofs.Extents.{extent}
use Rattle.rn_term.proofs.Floors.{IsLowering}
use Rattle.rn_term.proofs.store.lower_along.Given as goal

abbrev pub invariant-loop-to : goal.invariant-loop-to
invariant-loop-to l = record {
  within : l.end < length l.terms.items;
  lowering : IsLowering l.notes.items l.from l.floor l.end l.fn.floors.items l.floors.items;
}

abbrev pub decreases-loop-to : goal.decreases-loop-to
decreases-loop-to l = extent (record { terms = l.terms.items; notes = l.notes.items }) l.end
