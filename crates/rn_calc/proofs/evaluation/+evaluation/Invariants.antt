use Rattle.std.proofs.Common.{◌≡◌, ◌++◌, map, drop}
use Rattle.std.specs.Prelude.{option_map}
use Rattle.rn_model.specs.Evaluation.{worth, worths}
use Rattle.rn_calc.proofs.evaluation.+evaluation.Given as goal

abbrev pub invariant-evaluate_all-loop-expr : goal.invariant-evaluate_all-loop-expr
invariant-evaluate_all-loop-expr g l =
    worths (map worth l.exprs) (g.V.Values.env l.values)
    ≡ option_map (λ vs. l.found.items ++ vs)
    (worths (map worth (drop l.expr-index l.exprs)) (g.V.Values.env l.values))
