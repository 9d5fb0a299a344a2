-- The nodes so far.
use Rattle.std.proofs.Common.{◌≡◌, ◌++◌, map, drop}
use Rattle.std.specs.Prelude.{flat_map}
use Rattle.rn_model.specs.Derivation.{node_items}
use Rattle.rn_binding.specs.link.Parts.{item_of}
use Rattle.rn_binding.proofs.parts.parts_of.Given as goal

abbrev pub invariant-loop-i : goal.invariant-loop-i
invariant-loop-i l =
    map item_of l.parts.items ++ flat_map (node_items l.system) (drop l.i l.nodes)
    ≡ flat_map (node_items l.system) l.nodes
