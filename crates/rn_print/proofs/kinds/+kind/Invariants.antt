-- The kinds so far are written, each after a comma.
use Rattle.std.proofs.Common.{◌≡◌, ◌++◌, map, take}
use Rattle.std.specs.Prelude.{codes}
use Rattle.std.specs.List.{flat_map}
use Rattle.rn_print.specs.Kinds.{kind_text}
use Rattle.rn_print.proofs.kinds.+kind.Given as goal

abbrev pub invariant-put_kinds-loop-kind : goal.invariant-put_kinds-loop-kind
invariant-put_kinds-loop-kind l =
    l.out.items
    ≡ l.initial.out.items
    ++ flat_map (λ text. codes "," ++ text) (map kind_text (take l.kind-index l.others))
