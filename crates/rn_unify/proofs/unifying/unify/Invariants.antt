use Rattle.rn_unify.specs.link.Binding.{free_number}
use Rattle.rn_unify.proofs.UnifyingRounds.{IsUnderWay}
use Rattle.rn_unify.proofs.unifying.unify.Given as goal

abbrev pub invariant-loop-alloc : goal.invariant-loop-alloc
invariant-loop-alloc l = IsUnderWay l.fn.store l.a l.b l.store l.pairs.items

-- each turn binds a free variable
abbrev pub decreases-loop-alloc : goal.decreases-loop-alloc
decreases-loop-alloc l = free_number l.store
