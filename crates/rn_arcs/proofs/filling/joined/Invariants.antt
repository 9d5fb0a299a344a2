use Rattle.std.proofs.Common.{◌≡◌, ◌≤◌, ◌*◌, take}
use Rattle.std.specs.List.{sum_by}
use Rattle.rn_arcs.specs.link.Fillings.{fills_of}
use Rattle.rn_arcs.proofs.filling.joined.Given as goal

abbrev pub invariant-loop-pour : goal.invariant-loop-pour
invariant-loop-pour l =
    (l.fills.items ≡ fills_of (take l.pour-index l.pours))
    × (sum_by (λ f. f.count) l.fills.items ≤ l.pour-index * 18446744073709551616)
