-- What was reported is that of the constants so far.
use Rattle.std.proofs.Common.{◌≡◌, take}
use Rattle.std.specs.Prelude.{flat_map}
use Rattle.rn_declared.specs.Faults.{first_from}
use Rattle.rn_declared.specs.Declarations.{const_part}
use Rattle.rn_declared.proofs.kinds.+constant.Given as goal

abbrev pub invariant-see_const_parts-loop-part : goal.invariant-see_const_parts-loop-part
invariant-see_const_parts-loop-part l =
    l.first.fault
    ≡ first_from l.initial.first.fault (flat_map (λ part. (const_part part).faults) (take l.part-index l.parts))

abbrev pub invariant-see_consts-loop-part : goal.invariant-see_consts-loop-part
invariant-see_consts-loop-part l =
    l.first.fault
    ≡ first_from l.initial.first.fault (flat_map (λ part. (const_part part).faults) (take l.part-index l.parts))
