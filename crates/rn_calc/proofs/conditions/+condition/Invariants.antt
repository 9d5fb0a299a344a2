use Rattle.std.proofs.Common.{◌≡◌, map, drop, ◌||◌, ◌&&◌}
use Rattle.std.specs.Prelude.{Some}
use Rattle.rn_model.specs.Evaluation.{simple_truth, some_true, all_true, both_defined}
use Rattle.rn_calc.proofs.conditions.+condition.Given as goal

abbrev pub invariant-truth_in-loop-list : goal.invariant-truth_in-loop-list
invariant-truth_in-loop-list g l =
    some_true (map (map simple_truth) l.list-items) (g.V.Values.env l.values)
    ≡ both_defined (λ x y. x || y) (Some l.some)
    (some_true (map (map simple_truth) (drop l.list-index l.list-items)) (g.V.Values.env l.values))

abbrev pub invariant-all_of-loop-simple : goal.invariant-all_of-loop-simple
invariant-all_of-loop-simple g l =
    all_true (map simple_truth l.simples) (g.V.Values.env l.values)
    ≡ both_defined (λ x y. x && y) (Some l.all)
    (all_true (map simple_truth (drop l.simple-index l.simples)) (g.V.Values.env l.values))
