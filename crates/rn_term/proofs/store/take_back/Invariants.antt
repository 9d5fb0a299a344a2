use Rattle.std.proofs.Common.{length}
use Rattle.rn_term.proofs.TakingBack.{IsTakenBack}
use Rattle.rn_term.proofs.store.take_back.Given as goal

abbrev pub invariant-loop-notes : goal.invariant-loop-notes
invariant-loop-notes l =
    IsTakenBack l.initial.notes.items l.notes.items l.links.items
    (length l.initial.links.items) l.left

abbrev pub decreases-loop-notes : goal.decreases-loop-notes
decreases-loop-notes l = length l.notes.items
