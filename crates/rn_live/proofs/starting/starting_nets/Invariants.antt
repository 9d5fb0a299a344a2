use Rattle.std.proofs.Common.{◌≡◌, map, take}
use Rattle.std.specs.Prelude.{is_none}
use Rattle.std.specs.List.{list_any}
use Rattle.rn_live.proofs.starting.starting_nets.Given as goal

abbrev pub invariant-loop-net : goal.invariant-loop-net
invariant-loop-net l = l.starting.items ≡ map (λ net. list_any (λ t. is_none t.uplink) net.transitions) (take l.net-index l.system.nets)
