use Rattle.std.proofs.Common.{◌≡◌, ◌-◌, take}
use Rattle.rn_model.specs.Lists.{count_of}
use Rattle.rn_model.specs.Markings.{tokens}
use Rattle.rn_arcs.proofs.holding.left.Given as goal

abbrev pub invariant-loop-other : goal.invariant-loop-other
invariant-loop-other l =
    l.left
    ≡ count_of l.value (tokens l.fn.table.marking l.fn.inst l.fn.place)
    - count_of l.value (take l.other-index l.taken)
