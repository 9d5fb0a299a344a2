-- The constants so far are written, each after a separator.
use Rattle.std.proofs.Common.{◌≡◌, ◌++◌, map, take}
use Rattle.std.specs.List.{flat_map}
use Rattle.rn_print.specs.Constants.{constant_text}
use Rattle.rn_print.proofs.constants.+constant.Given as goal

abbrev pub invariant-put_constants-loop-constant : goal.invariant-put_constants-loop-constant
invariant-put_constants-loop-constant l =
    l.out.items
    ≡ l.initial.out.items
    ++ flat_map (λ text. l.separator ++ text) (map constant_text (take l.constant-index l.others))
