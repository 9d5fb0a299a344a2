use Rattle.std.proofs.Common.{◌≡◌, map, drop}
use Rattle.std.specs.List.{list_all}
use Rattle.rn_lines.specs.link.NodeSeen.{given}
use Rattle.rn_lookup.specs.Found.{are_called}
use Rattle.rn_lookup.proofs.instances.all_given_called.Given as goal

abbrev pub invariant-loop-given : goal.invariant-loop-given
invariant-loop-given l =
    list_all (λ g. are_called l.system l.made g.named) (map given (drop l.given-index l.all))
    ≡ list_all (λ g. are_called l.system l.made g.named) (map given l.all)
