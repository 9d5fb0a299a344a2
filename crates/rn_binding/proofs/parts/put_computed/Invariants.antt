-- The operator applications so far.
use Rattle.std.proofs.Common.{◌≡◌, ◌++◌, map}
use Rattle.rn_binding.specs.link.Applications.{application_of}
use Rattle.rn_binding.specs.link.Parts.{item_of}
use Rattle.rn_binding.proofs.PuttingParts.{as_item}
use Rattle.rn_binding.proofs.parts.put_computed.Given as goal

abbrev pub invariant-loop-application : goal.invariant-loop-application
invariant-loop-application l =
    map item_of l.parts.items
    ≡ map item_of l.initial.parts.items ++ map (as_item l.node) (map application_of l.yielded)
