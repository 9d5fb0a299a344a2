-- The expressions are those of the expressions so far.
use Rattle.std.proofs.Common.{◌≡◌, map, take}
use Rattle.rn_numbered.specs.Numbered.{expr_of, number_in}
use Rattle.rn_numbered.proofs.numbered.+expr.Given as goal

abbrev pub invariant-exprs_of-loop-e : goal.invariant-exprs_of-loop-e
invariant-exprs_of-loop-e l =
    l.made.items ≡ map (λ numbered. numbered (number_in l.vars)) (map expr_of (take l.e-index l.es))
