-- What was reported is that of the lists so far.
use Rattle.std.proofs.Common.{◌≡◌, take}
use Rattle.std.specs.Prelude.{flat_map}
use Rattle.rn_declared.specs.Faults.{first_from}
use Rattle.rn_rules.specs.Conditions.{simple_seen}
use Rattle.rn_rules.specs.link.Sights.{where_of}
use Rattle.rn_rules.proofs.conditions.+condition.Given as goal

abbrev pub invariant-see_condition-loop-simples : goal.invariant-see_condition-loop-simples
invariant-see_condition-loop-simples g l =
    l.first.fault
    ≡ first_from l.initial.first.fault
    (flat_map (λ simples. flat_map (λ simple. simple_seen simple (where_of l.fn.here)) simples)
    (take l.simples-index l.simples-items))

abbrev pub invariant-see_condition-loop-simple : goal.invariant-see_condition-loop-simple
invariant-see_condition-loop-simple g l =
    l.first.fault
    ≡ first_from l.initial.first.fault
    (flat_map (λ simple. simple_seen simple (where_of l.fn.here)) (take l.simple-index l.simple-items))
