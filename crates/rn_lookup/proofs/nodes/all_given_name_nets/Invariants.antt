use Rattle.std.proofs.Common.{◌≡◌, map, drop}
use Rattle.std.specs.List.{list_all}
use Rattle.rn_lines.specs.link.NodeSeen.{given}
use Rattle.rn_lookup.specs.Found.{name_nets}
use Rattle.rn_lookup.proofs.nodes.all_given_name_nets.Given as goal

abbrev pub invariant-loop-given : goal.invariant-loop-given
invariant-loop-given l =
    list_all (λ g. name_nets l.system g.named) (map given (drop l.given-index l.all))
    ≡ list_all (λ g. name_nets l.system g.named) (map given l.all)
