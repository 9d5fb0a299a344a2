-- Conditions of guards: what is broken in them.
use Rattle.std.specs.Prelude.{List, [], ◌∷◌, ◌++◌, flat_map}
use Rattle.rn_inscript.specs.declared.conds.PCond.{PCond, fold-PCond}
use Rattle.rn_inscript.specs.declared.conds.PSimple.{PSimple, fold-PSimple}
use Rattle.rn_inscript.specs.declared.conds.PSimple.TheOpen as S
use Rattle.rn_model.specs.declared.expr.CompareKind.{CompareKind}
use Rattle.rn_model.specs.declared.expr.CompareKind.TheVariants.{Same, Differs}
use Rattle.rn_declared.specs.declared.fault.Rule.TheVariants as Rule
use Rattle.rn_declared.specs.declared.fault.Fault.{Fault}
use Rattle.rn_declared.specs.Faults.{broken}
use Rattle.rn_rules.specs.Expressions.{Where, Seen, seen_of, apart, operands_faults}

-- two sides that must share a kind, reported at the left one
unfoldable pub sides_faults : Seen → Seen → List Fault
sides_faults a b = a.faults ++ b.faults ++ apart a b a.spot

-- the sides of `==` and `!=` share a kind, and the others compare whole numbers
abbrev pub compared_faults : CompareKind → Seen → Seen → List Fault
compared_faults Same a b = sides_faults a b
compared_faults Differs a b = sides_faults a b
compared_faults _ a b = operands_faults a b

-- an expression without comparison
unfoldable pub bare_faults : Seen → List Fault
bare_faults e = e.faults ++ broken Rule.Comparison e.spot ∷ []

-- A comparison, an expression without one, which is broken, or a negated condition, with what is
-- broken in that.
abbrev pub simple_faults : S.PSimple-F (Where → List Fault) (Where → List Fault) →
    Where → List Fault
simple_faults (S.Compare kind a b) place = compared_faults kind (seen_of a place) (seen_of b place)
simple_faults (S.Bare e) place = bare_faults (seen_of e place)
simple_faults (S.Not cond) place = cond place

-- what is broken in a comparison, an expression without one or a negation that stands somewhere
abbrev pub simple_seen : PSimple → Where → List Fault
simple_seen =
    fold-PSimple (Where → List Fault) (Where → List Fault) simple_faults
    (λ cond place. flat_map (λ simples. flat_map (λ simple. simple place) simples) cond.any)

-- what is broken in a condition that stands somewhere
abbrev pub condition_faults : PCond → Where → List Fault
condition_faults =
    fold-PCond (Where → List Fault) (Where → List Fault) simple_faults
    (λ cond place. flat_map (λ simples. flat_map (λ simple. simple place) simples) cond.any)
