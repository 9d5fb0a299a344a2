use Rattle.std.proofs.Common.{◌≡◌, ◌+◌, drop}
use Rattle.rn_spell.specs.link.Marks.{made_count}
use Rattle.rn_spell.proofs.marks.count_made.Given as goal

-- the rest is made by the nodes that are left
abbrev pub invariant-loop-node : goal.invariant-loop-node
invariant-loop-node l =
    l.count + made_count l.system (drop l.node-index l.nodes) ≡ made_count l.system l.nodes
