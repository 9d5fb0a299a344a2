-- What was put, and what is left to put, is all.
use Rattle.std.proofs.Common.{◌≡◌, ◌++◌, drop}
use Rattle.std.specs.Prelude.{flat_map}
use Rattle.rn_occurring.specs.link.OccurringParts.{vars_of_simple}
use Rattle.rn_occurring.proofs.occurring.+guard.Given as goal

abbrev pub invariant-put_simples-loop-simple : goal.invariant-put_simples-loop-simple
invariant-put_simples-loop-simple l =
    l.vars.items ++ flat_map vars_of_simple (drop l.simple-index l.simples)
    ≡ l.initial.vars.items ++ flat_map vars_of_simple l.simples

abbrev pub invariant-put_cond-loop-simples : goal.invariant-put_cond-loop-simples
invariant-put_cond-loop-simples l =
    l.vars.items ++ flat_map (flat_map vars_of_simple) (drop l.simples-index l.simples-items)
    ≡ l.initial.vars.items ++ flat_map (flat_map vars_of_simple) l.simples-items
