-- What the code keeps of an expression that it has seen. It connects the code with the definitions,
-- and states no rule.
use Rattle.std.specs.Prelude.{ℕ, [], ◌∷◌, ◌++◌, Bool, ◌&&◌, not, nat_le, List, length, map, Option}
use Rattle.std.specs.Prelude.{is_some, unwrap_or, Some, None}
use Rattle.std.specs.List.{list_all}
use Rattle.rn_model.specs.Limits.{most_parts}
use Rattle.rn_notation.specs.declared.token.Spot.{Spot}
use Rattle.rn_declared.specs.declared.pattern.Pattern.{Pattern}
use Rattle.rn_declared.specs.declared.pattern.Pattern.TheVariants as Pattern
use Rattle.rn_rules.specs.declared.sight.SeenExpr.{SeenExpr}
use Rattle.rn_rules.specs.declared.sight.Here.{Here}
use Rattle.rn_declared.specs.declared.fault.Rule.TheVariants as Rule
use Rattle.rn_declared.specs.declared.fault.Fault.{Fault}
use Rattle.rn_declared.specs.Faults.{broken, broken_if}
use Rattle.rn_rules.specs.Actions.{is_set_by}
use Rattle.rn_declared.specs.Patterns.{share, both_of}
use Rattle.rn_rules.specs.link.Numbers.{declared_of}
use Rattle.rn_rules.specs.Expressions.{Where, Seen, is_whole}
use Rattle.rn_declared.specs.link.Tables.{found_in, pattern_in}

-- where an expression stands
abbrev pub where_of : {N : Type 0} → Here N → Where
where_of here = record {
  pattern_of_var = pattern_in (declared_of here.vars.now);
  may_stand = λ name. is_set_by (found_in here.setters.now name) here.past;
  step_may = here.step_may;
}

-- what the code keeps of an expression
abbrev pub sight_of : {N : Type 0} → Seen → SeenExpr N
sight_of seen =
    record { spot = seen.spot; whole = is_whole seen.faults; pattern = seen.pattern }

-- whether two expressions are whole and share no kind
abbrev pub are_apart : {N : Type 0} → SeenExpr N → SeenExpr N → Bool
are_apart a b = a.whole && b.whole && not (share a.pattern b.pattern)

-- an expression that must have the kind of a pattern
abbrev pub misfit_of : {N : Type 0} → SeenExpr N → Pattern → List Fault
misfit_of a asked = broken_if (a.whole && not (share asked a.pattern)) Rule.Kinds a.spot

-- the same of a pattern that may be there
abbrev pub misfit_if : {N : Type 0} → SeenExpr N → Option Pattern → List Fault
misfit_if a None = []
misfit_if a (Some asked) = misfit_of a asked

-- each of these expressions must have the kind of the pattern at its index
abbrev pub misfits_of : {N : Type 0} → List (SeenExpr N) → List Pattern → List Fault
misfits_of (a ∷ sights) (asked ∷ patterns) = misfit_of a asked ++ misfits_of sights patterns
misfits_of _ _ = []

-- what is reported of a call with these arguments beside their own faults
abbrev pub call_of : {N : Type 0} → Option (List Pattern) → Spot → List (SeenExpr N) → List Fault
call_of None spot sights = broken Rule.Channel spot ∷ []
call_of (Some patterns) spot sights = misfits_of sights patterns

-- whether an expression is whole and has the kind of a pattern
abbrev pub fits_pattern : {N : Type 0} → SeenExpr N → Pattern → Bool
fits_pattern a asked = a.whole && share asked a.pattern

-- a variable
abbrev pub variable_sight : {N : Type 0} → Where → List ℕ → Spot → SeenExpr N
variable_sight place name spot = record {
  spot = spot;
  whole = is_some (place.pattern_of_var name) && place.may_stand name;
  pattern = unwrap_or (place.pattern_of_var name) Pattern.Any;
}

-- the elements of a list so far with one more
abbrev pub joined : {N : Type 0} → SeenExpr N → SeenExpr N → SeenExpr N
joined before e = record {
  spot = before.spot;
  whole = before.whole && e.whole && share before.pattern e.pattern;
  pattern = both_of before.pattern e.pattern;
}

-- the list of these elements
abbrev pub listed_sight : {N : Type 0} → SeenExpr N → SeenExpr N
listed_sight elements = record {
  spot = elements.spot;
  whole = elements.whole;
  pattern = Pattern.List elements.pattern;
}

-- the tuple of these parts
abbrev pub tuple_sight : {N : Type 0} → Spot → List (SeenExpr N) → SeenExpr N
tuple_sight spot parts = record {
  spot = spot;
  whole = nat_le (length parts) most_parts && list_all (λ part. part.whole) parts;
  pattern = Pattern.Tuple (map (λ part. part.pattern) parts);
}
