use Rattle.std.proofs.Common.{◌≡◌, ◌++◌, drop, map}
use Rattle.std.specs.List.{enumerate_from}
use Rattle.rn_model.specs.Numbers.{key_of}
use Rattle.rn_model.proofs.numbers.put_made.Given as goal

-- the creations so far and those to come are all
abbrev pub invariant-loop-index : goal.invariant-loop-index
invariant-loop-index l = l.made.items ++ map key_of (map (λ c. record { path = l.path; index = c.0; net = c.1.net }) (enumerate_from l.index (drop l.index l.creations)))
    ≡ l.initial.made.items ++ map key_of (map (λ c. record { path = l.path; index = c.0; net = c.1.net }) (enumerate_from 0 l.creations))
