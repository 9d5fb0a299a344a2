use Rattle.std.proofs.Common.{◌+◌, List, ◌++◌, map, drop, ap, sym, ◌∙◌, subst}
use Rattle.std.specs.Prelude.{flat_map, codes}
use Rattle.std.proofs.lemmas.List.{drop_all}
use Rattle.std.proofs.lemmas.List.Elements.{All-get_or}
use Rattle.rn_model.specs.declared.binding.Node.{Node}
use Rattle.rn_model.specs.Firing.{renamed_node}
use Rattle.rn_model.specs.NodeText.{node_text, node_line, IsWritable}
use Rattle.rn_window.specs.Windows.{after}
use Rattle.rn_window.proofs.Windows.{nothing}
use Rattle.rn_spell.proofs.NodeTexts.{called_line}
use Rattle.rn_spell.proofs.Slices.{at_changed, drop_item}
use Rattle.rn_spell.proofs.nodes.put_called.Goals as goal

pub put_node-requires : goal.put_node-requires
put_node-requires g c =
    let writable = IsWritable c.args.system.now (g.N.Naming.names c.args.naming.now) in
    let rename = renamed_node (g.N.Naming.renamed c.args.naming.now) in
    subst (λ (node : Node). writable (rename node)) (sym c.node-item.is)
    (All-get_or (λ node. writable (rename node)) c.args.nodes.now c.loop-node.node-index c.node-item.result c.loop-node-test.true
    (at_changed writable rename c.args.nodes.now c.requires))

pub loop-node-preserved : goal.loop-node-preserved
loop-node-preserved g c =
    let system = c.args.system.now in
    let names = g.N.Naming.names c.args.naming.now in
    let lead = g.L.Text.text c.args.lead.now in
    let rename = renamed_node (g.N.Naming.renamed c.args.naming.now) in
    let nodes = c.args.nodes.now in
    let i = c.loop-node.node-index in
    let line = node_line system names (lead ++ codes "+ ") in
    let split = drop_item nodes i c.node-item.result c.node-item.result c.loop-node-test.true c.node-item.is in
    called_line c.loop-node.window c.put.new.window c.put-in-loop-node.new.self c.put_node.new.window
    (after c.args.window.now (flat_map line (map rename nodes)))
    lead (codes "+ ") (node_text system names (rename c.node-item.result)) (codes "\n") (flat_map line (map rename (drop (i + 1) nodes)))
    (ap (λ (some : List Node). after c.loop-node.window (flat_map line (map rename some))) (sym split) ∙ c.loop-node.invariant)
    c.put.ensures c.put-in-loop-node.ensures c.put_node.ensures

pub returns : goal.returns
returns g c =
    let names = g.N.Naming.names c.args.naming.now in
    let lead = g.L.Text.text c.args.lead.now in
    let rename = renamed_node (g.N.Naming.renamed c.args.naming.now) in
    let line = node_line c.args.system.now names (lead ++ codes "+ ") in
    sym (ap (λ (some : List Node). after c.loop-node.window (flat_map line (map rename some))) (drop_all c.loop-node.node-index c.args.nodes.now c.loop-node-test.false)
    ∙ nothing c.loop-node.window)
    ∙ c.loop-node.invariant
