use Rattle.std.proofs.Common.{◌-◌, List, ◌++◌, length, map, take, drop, ap, sym, ◌∙◌, subst}
use Rattle.std.specs.Prelude.{All, flat_map, codes}
use Rattle.std.proofs.lemmas.List.Elements.{All-tail}
use Rattle.rn_model.specs.declared.binding.Node.{Node}
use Rattle.rn_model.specs.Firing.{renamed_node}
use Rattle.rn_model.specs.NodeText.{node_text, node_line, node_lines, IsWritable}
use Rattle.rn_window.specs.Windows.{after}
use Rattle.rn_window.proofs.Windows.{nothing}
use Rattle.rn_spell.proofs.NodeTexts.{first_line}
use Rattle.rn_spell.proofs.Slices.{first_and_rest, no_elements}
use Rattle.rn_spell.proofs.nodes.put_nodes.Goals as goal

pub put_called-requires : goal.put_called-requires
put_called-requires g c =
    let names = g.N.Naming.names c.args.naming.now in
    let rename = renamed_node (g.N.Naming.renamed c.args.naming.now) in
    let nodes = c.args.nodes.now in
    let split = first_and_rest nodes c.first-item.result c.in-len1-up.len_at_least c.first-item.is in
    All-tail (IsWritable c.args.system.now names) (rename c.first-item.result) (map rename (take (length nodes - 1) (drop 1 nodes)))
    (subst (λ (some : List Node). All (IsWritable c.args.system.now names) (map rename some)) split c.requires)

pub returns-in-empty : goal.returns-in-empty
returns-in-empty g c =
    let names = g.N.Naming.names c.args.naming.now in
    let lead = g.L.Text.text c.args.lead.now in
    let rename = renamed_node (g.N.Naming.renamed c.args.naming.now) in
    sym (ap (λ (some : List Node). after c.args.window.now (node_lines c.args.system.now names lead (map rename some))) (no_elements c.args.nodes.now c.in-empty.len_below)
    ∙ nothing c.args.window.now)

pub returns-in-len1-up : goal.returns-in-len1-up
returns-in-len1-up g c =
    let system = c.args.system.now in
    let names = g.N.Naming.names c.args.naming.now in
    let lead = g.L.Text.text c.args.lead.now in
    let rename = renamed_node (g.N.Naming.renamed c.args.naming.now) in
    let nodes = c.args.nodes.now in
    let split = first_and_rest nodes c.first-item.result c.in-len1-up.len_at_least c.first-item.is in
    first_line c.args.window.now c.put.new.window c.put_node.new.window c.put_called.new.window
    lead (node_text system names (rename c.first-item.result)) (codes "\n")
    (flat_map (node_line system names (lead ++ codes "+ ")) (map rename (take (length nodes - 1) (drop 1 nodes))))
    c.put.ensures c.put_node.ensures c.put_called.ensures
    ∙ ap (λ (some : List Node). after c.args.window.now (node_lines system names lead (map rename some))) (sym split)
