use Rattle.std.proofs.Common.{◌≡◌, map, drop}
use Rattle.std.specs.List.{list_all}
use Rattle.rn_value.specs.Kinds.{value_has_kind}
use Rattle.rn_lines.specs.link.LinesSeen.{item}
use Rattle.rn_lookup.specs.Found.{tokens_held}
use Rattle.rn_lookup.proofs.marks.items_fit.Given as goal

abbrev pub invariant-loop-item : goal.invariant-loop-item
invariant-loop-item l =
    list_all (λ t. value_has_kind t.value l.kind) (tokens_held (map item (drop l.item-index l.items)))
    ≡ list_all (λ t. value_has_kind t.value l.kind) (tokens_held (map item l.items))
