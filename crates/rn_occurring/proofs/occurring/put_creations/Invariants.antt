-- What was put, and what is left to put, is all.
use Rattle.std.proofs.Common.{◌≡◌, ◌++◌, drop, map}
use Rattle.rn_occurring.proofs.occurring.put_creations.Given as goal

abbrev pub invariant-loop-creation : goal.invariant-loop-creation
invariant-loop-creation l =
    l.vars.items ++ map (λ c. c.var) (drop l.creation-index l.creations)
    ≡ l.initial.vars.items ++ map (λ c. c.var) l.creations
