use Rattle.std.proofs.Common.{◌≡◌, ◌++◌, take, reverse}
use Rattle.rn_model.specs.Lists.{value_beside}
use Rattle.rn_calc.specs.link.NodeValues.{lent_env}
use Rattle.rn_acts.proofs.acting.ActingValues.value.Given as goal

abbrev pub invariant-loop-i : goal.invariant-loop-i
invariant-loop-i l =
    value_beside (reverse (take l.i l.set) ++ (lent_env l.self.known).pairs) l.x
    ≡ value_beside (reverse l.set ++ (lent_env l.self.known).pairs) l.x
