use Rattle.rn_term.proofs.Bulks.{bulk, total_of}
use Rattle.rn_term.proofs.LevelLemmas.{IsRaising}
use Rattle.rn_term.proofs.levels.raise_all.Given as goal

abbrev pub invariant-loop-next : goal.invariant-loop-next
invariant-loop-next l =
    IsRaising (record { terms = l.terms.items; notes = l.notes.items }) l.flags.items l.var l.to
    l.level l.levels.items l.rest.items

abbrev pub decreases-loop-next : goal.decreases-loop-next
decreases-loop-next l =
    total_of (bulk (record { terms = l.terms.items; notes = l.notes.items })) l.rest.items
