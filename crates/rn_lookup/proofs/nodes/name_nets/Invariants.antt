use Rattle.std.proofs.Common.{◌≡◌, map, drop}
use Rattle.rn_lines.specs.link.Said.{said}
use Rattle.rn_lookup.specs.Found.{name_nets}
use Rattle.rn_lookup.proofs.nodes.name_nets.Given as goal

abbrev pub invariant-loop-mention : goal.invariant-loop-mention
invariant-loop-mention l =
    name_nets l.system (map said (drop l.mention-index l.mentions))
    ≡ name_nets l.system (map said l.mentions)
