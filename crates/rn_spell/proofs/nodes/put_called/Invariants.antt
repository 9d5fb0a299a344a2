use Rattle.std.proofs.Common.{◌≡◌, ◌++◌, drop, map}
use Rattle.std.specs.Prelude.{flat_map, codes}
use Rattle.rn_model.specs.Firing.{renamed_node}
use Rattle.rn_model.specs.NodeText.{node_line}
use Rattle.rn_window.specs.Windows.{after}
use Rattle.rn_spell.proofs.nodes.put_called.Given as goal

-- what is written so far and the lines to come are all
abbrev pub invariant-loop-node : goal.invariant-loop-node
invariant-loop-node g l =
    after l.window (flat_map (node_line l.system (g.N.Naming.names l.naming) (g.L.Text.text l.lead ++ codes "+ "))
    (map (renamed_node (g.N.Naming.renamed l.naming)) (drop l.node-index l.nodes)))
    ≡ after l.initial.window (flat_map (node_line l.system (g.N.Naming.names l.naming) (g.L.Text.text l.lead ++ codes "+ "))
    (map (renamed_node (g.N.Naming.renamed l.naming)) l.nodes))
