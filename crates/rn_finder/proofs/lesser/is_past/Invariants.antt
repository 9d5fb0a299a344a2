use Rattle.std.specs.Prelude.{drop}
use Rattle.rn_finder.specs.Lesser.{IsPast}
use Rattle.rn_finder.proofs.lesser.is_past.Given as goal

-- what is past from here on is past as a whole
abbrev pub invariant-loop-i : goal.invariant-loop-i
invariant-loop-i l =
    IsPast l.growing (drop l.i l.vars) (drop l.i l.values) → IsPast l.growing l.vars l.values
