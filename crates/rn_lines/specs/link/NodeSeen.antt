-- What a read node says, without where it lies in memory.
use Rattle.std.specs.Prelude.{map}
use Rattle.rn_lines.specs.NodeText.{Given, NodeSaid}
use Rattle.rn_lines.specs.link.Said.{said}
use Rattle.rn_lines.specs.declared.nodes.ReadGiven.{ReadGiven}
use Rattle.rn_lines.specs.declared.nodes.ReadNode.{ReadNode}

-- a variable with its value
abbrev pub given : ReadGiven → Given
given g = record {
  variable = g.variable.now;
  value = g.value;
  named = map said g.mentions.items;
}

-- a node
abbrev pub node : ReadNode → NodeSaid
node n = record {
  inst = said n.inst;
  transition = n.transition.now;
  given = map given n.given.items;
}
