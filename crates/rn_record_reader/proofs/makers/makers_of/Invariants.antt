use Rattle.std.proofs.Common.{◌≡◌, map, take}
use Rattle.rn_record_reader.specs.Bindings.{makers_of}
use Rattle.rn_record_reader.specs.link.NodesAhead.{placed}
use Rattle.rn_record_reader.proofs.makers.makers_of.Given as goal

abbrev pub invariant-loop-x : goal.invariant-loop-x
invariant-loop-x l =
    l.makers.items ≡ makers_of l.system (map placed (take l.x-index l.nodes))
