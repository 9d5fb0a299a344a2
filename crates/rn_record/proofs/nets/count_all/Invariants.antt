use Rattle.std.proofs.Common.{◌≡◌, ◌+◌, drop, length}
use Rattle.std.specs.Prelude.{flat_map}
use Rattle.rn_spell.specs.Made.{nets_by}
use Rattle.rn_record.proofs.nets.count_all.Given as goal

abbrev pub invariant-loop-node : goal.invariant-loop-node
invariant-loop-node l = l.count + length (flat_map (nets_by l.system) (drop l.node-index l.node-items)) ≡ length (flat_map (nets_by l.system) l.node-items)
