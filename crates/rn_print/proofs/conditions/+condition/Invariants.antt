-- The conditions so far are written, each after a sign.
use Rattle.std.proofs.Common.{◌≡◌, ◌++◌, map, take}
use Rattle.std.specs.Prelude.{codes}
use Rattle.std.specs.List.{flat_map}
use Rattle.rn_print.specs.Conditions.{simple_text, all_step}
use Rattle.rn_print.proofs.conditions.+condition.Given as goal

abbrev pub invariant-put_cond-loop-simples : goal.invariant-put_cond-loop-simples
invariant-put_cond-loop-simples l =
    l.out.items
    ≡ l.initial.out.items
    ++ flat_map (λ simples. codes " || " ++ all_step simples)
    (map (map simple_text) (take l.simples-index l.others))

abbrev pub invariant-put_simples-loop-simple : goal.invariant-put_simples-loop-simple
invariant-put_simples-loop-simple l =
    l.out.items
    ≡ l.initial.out.items
    ++ flat_map (λ text. codes " && " ++ text) (map simple_text (take l.simple-index l.others))
