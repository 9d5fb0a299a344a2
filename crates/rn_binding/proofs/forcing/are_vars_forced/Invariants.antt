-- The variables so far.
use Rattle.std.proofs.Common.{ℕ, ◌<◌, get_or}
use Rattle.rn_binding.specs.link.Passing.{IsVarForcedOn}
use Rattle.rn_binding.proofs.forcing.are_vars_forced.Given as goal

abbrev pub invariant-loop-x : goal.invariant-loop-x
invariant-loop-x l = (k d : ℕ) → k < l.x-index → IsVarForcedOn l.growing l.path (get_or l.vars k d)
