-- The lines so far are written.
use Rattle.std.proofs.Common.{◌≡◌, ◌++◌, take}
use Rattle.std.specs.List.{flat_map}
use Rattle.rn_print.specs.Nets.{net_text}
use Rattle.rn_print.proofs.nets.put_nets.Given as goal

abbrev pub invariant-loop-net : goal.invariant-loop-net
invariant-loop-net l =
    l.out.items ≡ l.initial.out.items ++ flat_map (net_text l.notation) (take l.net-index l.nets)
