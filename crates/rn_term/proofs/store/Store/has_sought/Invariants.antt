use Rattle.rn_term.proofs.Bulks.{bulk, total_of}
use Rattle.rn_term.proofs.Walks.{IsWalked}
use Rattle.rn_term.proofs.store.Store.has_sought.Given as goal

abbrev pub invariant-loop-next : goal.invariant-loop-next
invariant-loop-next l = IsWalked l.self l.sought l.id l.seen l.rest.items

abbrev pub decreases-loop-next : goal.decreases-loop-next
decreases-loop-next l = total_of (bulk l.self) l.rest.items
