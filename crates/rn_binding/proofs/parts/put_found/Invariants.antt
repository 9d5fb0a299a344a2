-- The arcs so far.
use Rattle.std.proofs.Common.{◌≡◌, ◌++◌, map, drop}
use Rattle.std.specs.Prelude.{flat_map}
use Rattle.std.specs.List.{enumerate_from}
use Rattle.rn_binding.specs.link.Parts.{item_of}
use Rattle.rn_binding.specs.link.Parts.{found_at}
use Rattle.rn_binding.proofs.parts.put_found.Given as goal

abbrev pub invariant-loop-k : goal.invariant-loop-k
invariant-loop-k l =
    map item_of l.parts.items ++ flat_map (found_at l.node) (enumerate_from l.k (drop l.k l.arcs))
    ≡ map item_of l.initial.parts.items ++ flat_map (found_at l.node) (enumerate_from 0 l.arcs)
