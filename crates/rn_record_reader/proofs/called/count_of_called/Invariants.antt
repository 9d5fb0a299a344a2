use Rattle.std.proofs.Common.{◌≡◌, ◌+◌, map, drop}
use Rattle.rn_record_reader.specs.Called.{count_of_called}
use Rattle.rn_record_reader.specs.link.NodesAhead.{placed}
use Rattle.rn_record_reader.proofs.called.count_of_called.Given as goal

abbrev pub invariant-loop-i : goal.invariant-loop-i
invariant-loop-i l =
    l.i + count_of_called l.system l.made (map placed (drop l.i l.nodes))
    ≡ count_of_called l.system l.made (map placed l.nodes)
