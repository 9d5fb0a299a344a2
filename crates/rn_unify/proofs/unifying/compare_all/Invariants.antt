use Rattle.std.proofs.Common.{◌<◌, Bool, List, drop}
use Rattle.rn_term.specs.Assignments.{Keeps}
use Rattle.rn_unify.specs.declared.classes.Classes.{Classes}
use Rattle.rn_unify.specs.declared.equation.Equation.{Equation}
use Rattle.rn_unify.specs.link.Equations.{AreEachOne, AreMade, Adds}
use Rattle.rn_unify.proofs.unifying.compare_all.Given as goal

-- what is added for the pairs left is added for all
abbrev pub invariant-loop-a : goal.invariant-loop-a
invariant-loop-a l = record {
  whole : (made : Classes) (after : List Equation) (answer : Bool) →
      Adds l.store (AreEachOne (drop l.a-index l.pairs)) made l.found.items after answer →
      Adds l.store (AreEachOne l.pairs) made l.initial.found.items after answer;
  fits : AreMade l.store l.made l.found.items;
  kept : 0 < l.a-index → Keeps l.store;
}
