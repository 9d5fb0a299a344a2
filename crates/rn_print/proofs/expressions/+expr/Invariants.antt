-- The expressions so far are written, each after a comma.
use Rattle.std.proofs.Common.{◌≡◌, ◌++◌, map, take}
use Rattle.std.specs.Prelude.{codes}
use Rattle.std.specs.List.{flat_map}
use Rattle.rn_print.specs.Expressions.{operand_text, alone}
use Rattle.rn_print.proofs.expressions.+expr.Given as goal

abbrev pub invariant-put_exprs-loop-expr : goal.invariant-put_exprs-loop-expr
invariant-put_exprs-loop-expr l =
    l.out.items
    ≡ l.initial.out.items
    ++ flat_map (λ text. codes "," ++ alone text) (map operand_text (take l.expr-index l.others))
