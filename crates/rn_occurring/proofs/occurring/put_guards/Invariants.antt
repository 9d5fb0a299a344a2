-- What was put, and what is left to put, is all.
use Rattle.std.proofs.Common.{◌≡◌, ◌++◌, drop}
use Rattle.std.specs.Prelude.{flat_map}
use Rattle.rn_occurring.specs.link.OccurringParts.{vars_of_cond}
use Rattle.rn_occurring.proofs.occurring.put_guards.Given as goal

abbrev pub invariant-loop-guard : goal.invariant-loop-guard
invariant-loop-guard l =
    l.vars.items ++ flat_map vars_of_cond (drop l.guard-index l.guards)
    ≡ l.initial.vars.items ++ flat_map vars_of_cond l.guards
