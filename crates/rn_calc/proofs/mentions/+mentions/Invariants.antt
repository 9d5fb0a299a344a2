use Rattle.std.proofs.Common.{◌≡◌, map, drop}
use Rattle.std.specs.Prelude.{nat_eq}
use Rattle.std.specs.List.{list_any, concat}
use Rattle.rn_model.specs.Systems.{vars_in}
use Rattle.rn_calc.proofs.mentions.+mentions.Given as goal

abbrev pub invariant-mention-loop-expr : goal.invariant-mention-loop-expr
invariant-mention-loop-expr l =
    list_any (λ x. list_any (λ y. nat_eq y x) l.vars)
    (concat (map vars_in (drop l.expr-index l.exprs)))
    ≡ list_any (λ x. list_any (λ y. nat_eq y x) l.vars) (concat (map vars_in l.exprs))
