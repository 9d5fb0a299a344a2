use Rattle.std.proofs.Common.{take}
use Rattle.std.specs.Prelude.{Contains}
use Rattle.rn_reach.specs.Reach.{RefersTo}
use Rattle.rn_holders.specs.link.Puts.{Joins}
use Rattle.rn_holders.proofs.backwards.join_holders.Given as goal

abbrev pub invariant-loop-holder : goal.invariant-loop-holder
invariant-loop-holder l =
    Joins
    (λ n. Contains (take l.holder-index l.holders) n × RefersTo l.table.marking n l.number)
    l.initial.found.keys l.found.keys
