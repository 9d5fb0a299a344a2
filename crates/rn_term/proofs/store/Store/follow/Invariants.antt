use Rattle.std.proofs.Common.{◌<◌, length}
use Rattle.rn_term.specs.Stores.{Leads}
use Rattle.rn_term.proofs.Extents.{extent}
use Rattle.rn_term.proofs.store.Store.follow.Given as goal

abbrev pub invariant-loop-to : goal.invariant-loop-to
invariant-loop-to l = record {
  within : l.end < length l.self-inside.terms.items;
  leads : Leads l.self-inside.notes.items l.id l.end;
}

abbrev pub decreases-loop-to : goal.decreases-loop-to
decreases-loop-to l =
    extent (record {
      terms = l.self-inside.terms.items;
      notes = l.self-inside.notes.items;
    }) l.end
