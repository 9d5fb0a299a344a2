-- The lines so far are written.
use Rattle.std.proofs.Common.{◌≡◌, ◌++◌, take}
use Rattle.std.specs.List.{flat_map}
use Rattle.rn_print.specs.Nets.{var_text}
use Rattle.rn_print.proofs.nets.put_vars.Given as goal

abbrev pub invariant-loop-var : goal.invariant-loop-var
invariant-loop-var l =
    l.out.items ≡ l.initial.out.items ++ flat_map var_text (take l.var-index l.vars)
