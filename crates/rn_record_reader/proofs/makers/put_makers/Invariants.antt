-- what makes the instances so far, and those to come, are all
use Rattle.std.proofs.Common.{◌≡◌, ◌++◌, map, drop}
use Rattle.std.specs.List.{enumerate_from}
use Rattle.rn_record_reader.proofs.makers.put_makers.Given as goal

abbrev pub invariant-loop-index : goal.invariant-loop-index
invariant-loop-index l =
    l.makers.items ++ map (λ c. record { path = l.path; index = c.0 })
    (enumerate_from l.index (drop l.index l.creations))
    ≡ l.initial.makers.items ++ map (λ c. record { path = l.path; index = c.0 })
    (enumerate_from 0 l.creations)
