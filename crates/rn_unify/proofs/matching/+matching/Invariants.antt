use Rattle.std.proofs.Common.{◌≡◌, ℕ, List, Bool, true, map, length, take, drop}
use Rattle.rn_term.specs.Assignments.{value_at}
use Rattle.rn_unify.specs.declared.equation.Equation.{Equation}
use Rattle.rn_unify.specs.link.Equations.{Finds}
use Rattle.rn_unify.specs.link.Rests.{IsRest, rest_value}
use Rattle.rn_unify.proofs.matching.+matching.Given as goal

-- what gives the first ids the first values is found
abbrev pub invariant-match_parts-loop-k : goal.invariant-match_parts-loop-k
invariant-match_parts-loop-k l =
    Finds l.store (λ vs. map (value_at vs) (take l.k l.ids) ≡ take l.k l.values)
    l.fn.found.items l.found.items true

-- What will be found of the rest of the list and the values that are left, with what is found so
-- far, is found of the whole list and all values. The values that are left stand after some of
-- them.
abbrev pub invariant-match_rest-loop-ids : goal.invariant-match_rest-loop-ids
invariant-match_rest-loop-ids l = record {
  rest : IsRest l.store l.rest;
  whole : (after : List Equation) (answer : Bool) →
      Finds l.store (λ vs. rest_value vs l.rest ≡ l.values) l.found.items after answer →
      Finds l.store (λ vs. rest_value vs l.fn.rest ≡ l.fn.values) l.fn.found.items after answer;
  behind : (n : ℕ) × (l.values ≡ drop n l.fn.values);
}

abbrev pub decreases-match_rest-loop-ids : goal.decreases-match_rest-loop-ids
decreases-match_rest-loop-ids l = length l.values
