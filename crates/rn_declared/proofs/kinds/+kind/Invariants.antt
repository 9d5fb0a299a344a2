-- What was reported is that of the kinds so far.
use Rattle.std.proofs.Common.{◌≡◌, take}
use Rattle.std.specs.Prelude.{flat_map}
use Rattle.rn_declared.specs.Faults.{first_from}
use Rattle.rn_declared.specs.Declarations.{kind_part}
use Rattle.rn_declared.proofs.kinds.+kind.Given as goal

abbrev pub invariant-see_kinds-loop-kind : goal.invariant-see_kinds-loop-kind
invariant-see_kinds-loop-kind l =
    l.first.fault
    ≡ first_from l.initial.first.fault (flat_map (λ kind. (kind_part kind).faults) (take l.kind-index l.kinds))
