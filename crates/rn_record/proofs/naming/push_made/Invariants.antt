use Rattle.std.proofs.Common.{◌≡◌, ◌++◌, take}
use Rattle.std.specs.Prelude.{flat_map}
use Rattle.rn_record.specs.RecordText.{names_by}
use Rattle.rn_record.proofs.naming.push_made.Given as goal

abbrev pub invariant-loop-node : goal.invariant-loop-node
invariant-loop-node l = l.names ≡ l.initial.names ++ flat_map (names_by l.system) (take l.node-index l.node-items)
