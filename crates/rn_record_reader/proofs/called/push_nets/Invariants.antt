use Rattle.std.proofs.Common.{◌≡◌, ◌++◌, map, take}
use Rattle.rn_record_reader.proofs.called.push_nets.Given as goal

abbrev pub invariant-loop-creation : goal.invariant-loop-creation
invariant-loop-creation l =
    l.made.items ≡ l.initial.made.items ++ map (λ c. c.net) (take l.creation-index l.creations)
