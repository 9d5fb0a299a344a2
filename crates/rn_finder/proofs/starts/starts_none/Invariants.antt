use Rattle.std.specs.Prelude.{ℕ, ◌<◌}
use Rattle.rn_finder.specs.Starting.{MayStartBy}
use Rattle.rn_finder.proofs.starts.starts_none.Given as goal

-- a firing may start by none of the transitions so far
abbrev pub invariant-loop-t : goal.invariant-loop-t
invariant-loop-t l = (t : ℕ) → t < l.t → ¬ MayStartBy l.system l.inst t
