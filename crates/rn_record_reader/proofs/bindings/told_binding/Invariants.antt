use Rattle.std.proofs.Common.{◌≡◌, map, take}
use Rattle.rn_record_reader.specs.Bindings.{told_node}
use Rattle.rn_record_reader.specs.link.NodesAhead.{placed}
use Rattle.rn_record_reader.proofs.bindings.told_binding.Given as goal

abbrev pub invariant-loop-x : goal.invariant-loop-x
invariant-loop-x l =
    l.told.items ≡ map (told_node l.makers.items l.count) (map placed (take l.x-index l.nodes))
