use Rattle.std.proofs.Common.{◌≡◌, map, drop}
use Rattle.rn_lines.specs.link.Said.{said}
use Rattle.rn_lookup.specs.Found.{are_called}
use Rattle.rn_lookup.proofs.instances.are_called.Given as goal

abbrev pub invariant-loop-mention : goal.invariant-loop-mention
invariant-loop-mention l =
    are_called l.system l.made (map said (drop l.mention-index l.mentions))
    ≡ are_called l.system l.made (map said l.mentions)
