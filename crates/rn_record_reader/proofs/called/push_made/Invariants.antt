use Rattle.std.proofs.Common.{◌≡◌, ◌++◌, map, take}
use Rattle.rn_record_reader.specs.Called.{nets_made}
use Rattle.rn_record_reader.specs.link.NodesAhead.{placed}
use Rattle.rn_record_reader.proofs.called.push_made.Given as goal

abbrev pub invariant-loop-x : goal.invariant-loop-x
invariant-loop-x l =
    l.made.items ≡ l.initial.made.items ++ nets_made l.system (map placed (take l.x-index l.nodes))
