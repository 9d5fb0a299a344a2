use Rattle.std.proofs.Common.{◌≡◌, ◌++◌, map, take}
use Rattle.rn_acts.proofs.creations.add_nets.Given as goal

abbrev pub invariant-loop-creation : goal.invariant-loop-creation
invariant-loop-creation l =
    l.nets ≡ l.initial.nets ++ map (λ c. c.net) (take l.creation-index l.creations)
