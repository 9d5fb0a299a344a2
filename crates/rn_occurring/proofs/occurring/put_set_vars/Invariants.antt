-- What was put, and what is left to put, is all.
use Rattle.std.proofs.Common.{◌≡◌, ◌++◌, drop}
use Rattle.std.specs.Prelude.{flat_map}
use Rattle.rn_model.specs.Good.{set_var}
use Rattle.rn_occurring.proofs.occurring.put_set_vars.Given as goal

abbrev pub invariant-loop-action : goal.invariant-loop-action
invariant-loop-action l =
    l.vars.items ++ flat_map set_var (drop l.action-index l.actions)
    ≡ l.initial.vars.items ++ flat_map set_var l.actions
