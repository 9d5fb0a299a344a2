-- Arcs: what is broken in them.
use Rattle.std.specs.Prelude.{Bool, true, false, not, ◌&&◌, List, [], ◌∷◌, ◌++◌}
use Rattle.std.specs.Prelude.{Option, Some, None, is_none}
use Rattle.std.specs.Option.{option_map_or}
use Rattle.rn_inscript.specs.declared.inscriptions.PName.{PName}
use Rattle.rn_inscript.specs.declared.exprs.PExpr.{PExpr, out-PExpr}
use Rattle.rn_inscript.specs.declared.exprs.PForm.{PForm, out-PForm}
use Rattle.rn_inscript.specs.declared.exprs.PForm.TheOpen as F
use Rattle.rn_model.specs.declared.system.ArcKind.{ArcKind}
use Rattle.rn_model.specs.declared.system.ArcKind.TheVariants.{FlexInput, FlexOutput, Clear}
use Rattle.rn_declared.specs.declared.fault.Rule.TheVariants as Rule
use Rattle.rn_declared.specs.declared.fault.Fault.{Fault}
use Rattle.rn_declared.specs.declared.pattern.Pattern.{Pattern}
use Rattle.rn_declared.specs.declared.pattern.Pattern.TheVariants as Pattern
use Rattle.rn_declared.specs.Faults.{broken, broken_if}
use Rattle.rn_rules.specs.Expressions.{Where, seen_of, misfit}

-- the kind that an arc's inscription must have at a place of this kind: flexible and clear arcs
-- have lists of it
abbrev pub asked_of : ArcKind → Pattern → Pattern
asked_of FlexInput pattern = Pattern.List pattern
asked_of FlexOutput pattern = Pattern.List pattern
asked_of Clear pattern = Pattern.List pattern
asked_of _ pattern = pattern

-- whether an arc clears its place
abbrev pub is_clear : ArcKind → Bool
is_clear Clear = true
is_clear _ = false

-- whether a form is that of a variable
abbrev pub is_name : F.PForm-F PForm PExpr → Bool
is_name (F.Name name) = true
is_name _ = false

-- whether an expression is a variable alone
abbrev pub is_variable : PExpr → Bool
is_variable e = is_name (out-PForm (out-PExpr e).form)

-- what is broken in the inscription of an arc at a place with this pattern, if it is declared: it
-- has the kind that is asked for, and that of a clear arc is a variable
unfoldable pub inscribed_faults : ArcKind → Option Pattern → PExpr → Where → List Fault
inscribed_faults kind place e at =
    (seen_of e at).faults
    ++ option_map_or (λ pattern. misfit (seen_of e at) (asked_of kind pattern)) place []
    ++ broken_if (is_clear kind && not (is_variable e)) Rule.Inscription (seen_of e at).spot

-- What is broken in an arc. Its place is declared, and it has an inscription: only flexible and
-- clear arcs may have none in a text, and then this is reported at the place's name.
abbrev pub arc_faults : ArcKind → Option Pattern → PName → Option PExpr → Where → List Fault
arc_faults kind place name None at =
    broken_if (is_none place) Rule.Known name.spot ++ broken Rule.Inscription name.spot ∷ []
arc_faults kind place name (Some e) at =
    broken_if (is_none place) Rule.Known name.spot ++ inscribed_faults kind place e at
