use Rattle.std.proofs.Common.{◌≡◌, ◌+◌, drop, length}
use Rattle.std.specs.Prelude.{flat_map}
use Rattle.std.specs.List.{position_from}
use Rattle.rn_model.specs.Firing.{made_by}
use Rattle.rn_spell.proofs.FirstCreation.{is_the}
use Rattle.rn_spell.proofs.numbering.number_of_made.Given as goal

-- the first creation of the path and index is behind the nodes so far
abbrev pub invariant-loop-node : goal.invariant-loop-node
invariant-loop-node l =
    let left = flat_map (made_by l.system) (drop l.node-index l.nodes) in
    record {
      counted : l.before + length left ≡ length (flat_map (made_by l.system) l.nodes);
      behind : position_from (is_the l.path l.index) (l.next + l.before) left ≡ position_from (is_the l.path l.index) l.next (flat_map (made_by l.system) l.nodes);
    }
