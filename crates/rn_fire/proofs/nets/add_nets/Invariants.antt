use Rattle.std.proofs.Common.{◌≡◌, ◌++◌, take}
use Rattle.std.specs.Prelude.{vec_capacity}
use Rattle.rn_fire.proofs.nets.add_nets.Given as goal

abbrev pub invariant-loop-net : goal.invariant-loop-net
invariant-loop-net l =
    (l.nets.items ≡ l.initial.nets.items ++ take l.net-index l.made)
    × (vec_capacity l.nets ≡ vec_capacity l.initial.nets)
