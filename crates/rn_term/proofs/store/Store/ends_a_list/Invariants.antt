use Rattle.rn_term.proofs.LastLists.{IsLookedThrough, past}
use Rattle.rn_term.proofs.store.Store.ends_a_list.Given as goal

abbrev pub invariant-loop-next : goal.invariant-loop-next
invariant-loop-next l = IsLookedThrough l.self l.var l.next

abbrev pub decreases-loop-next : goal.decreases-loop-next
decreases-loop-next l = past l.next
