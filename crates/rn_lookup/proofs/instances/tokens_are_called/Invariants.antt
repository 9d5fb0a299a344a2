use Rattle.std.proofs.Common.{◌≡◌, map, drop}
use Rattle.rn_lines.specs.link.LinesSeen.{item}
use Rattle.rn_lookup.specs.Found.{tokens_are_called, tokens_held}
use Rattle.rn_lookup.proofs.instances.tokens_are_called.Given as goal

abbrev pub invariant-loop-item : goal.invariant-loop-item
invariant-loop-item l =
    tokens_are_called l.system l.made (tokens_held (map item (drop l.item-index l.items)))
    ≡ tokens_are_called l.system l.made (tokens_held (map item l.items))
