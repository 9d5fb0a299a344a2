use Rattle.std.proofs.Common.{◌≡◌, map, drop}
use Rattle.std.specs.List.{list_all}
use Rattle.rn_lines.specs.link.LinesSeen.{item}
use Rattle.rn_lookup.specs.Found.{name_nets, tokens_held}
use Rattle.rn_lookup.proofs.marks.all_items_name_nets.Given as goal

abbrev pub invariant-loop-item : goal.invariant-loop-item
invariant-loop-item l =
    list_all (λ t. name_nets l.system t.named) (tokens_held (map item (drop l.item-index l.items)))
    ≡ list_all (λ t. name_nets l.system t.named) (tokens_held (map item l.items))
