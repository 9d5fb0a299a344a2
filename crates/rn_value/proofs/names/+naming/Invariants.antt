use Rattle.std.proofs.Common.{◌≡◌, length, map, drop}
use Rattle.std.specs.List.{list_all}
use Rattle.rn_value.specs.Names.{instances_within}
use Rattle.rn_value.proofs.names.+naming.Given as goal

abbrev pub invariant-all_are_named-loop-value : goal.invariant-all_are_named-loop-value
invariant-all_are_named-loop-value l = list_all (λ within. within (length l.names)) (map instances_within (drop l.value-index l.values)) ≡ list_all (λ within. within (length l.names)) (map instances_within l.values)
