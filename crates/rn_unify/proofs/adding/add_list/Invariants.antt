use Rattle.std.proofs.Common.{length}
use Rattle.rn_unify.specs.link.Adding.{IsOf, MayStand, Turns, list_of}
use Rattle.rn_unify.proofs.adding.add_list.Given as goal

-- the list to be added turned into that of the first elements before a tail
abbrev pub invariant-loop-first : goal.invariant-loop-first
invariant-loop-first l = record {
  stands : MayStand l.store (list_of l.first.items l.tail);
  turned : Turns l.fn.store (IsOf (list_of l.fn.ids.items l.fn.tail)) l.store
      (IsOf (list_of l.first.items l.tail));
}

abbrev pub decreases-loop-first : goal.decreases-loop-first
decreases-loop-first l = length l.first.items
