-- Laws over what the checker accepts. Each is the contract of a function that does nothing.
use Rattle.std.specs.Prelude.{◌≡◌, ◌↔◌, ℕ, List, []}
use Rattle.rn_value.specs.declared.value.Kind.{Kind}
use Rattle.rn_inscript.specs.declared.exprs.PExpr.{PExpr}
use Rattle.rn_net.specs.declared.plain.Plain.{Plain}
use Rattle.rn_net.specs.declared.plain.PNet.{PNet}
use Rattle.rn_net.specs.Texts.{Spells}
use Rattle.rn_model.specs.declared.system.System.{System}
use Rattle.rn_model.specs.Good.{Good}
use Rattle.rn_model.specs.Systems.{var_kind_in}
use Rattle.rn_model.specs.Kinds.{HasExprKind}
use Rattle.rn_declared.specs.Patterns.{IsKindBy}
use Rattle.rn_rules.specs.Expressions.{Where, seen_of}
use Rattle.rn_numbering.specs.Numbering.{numbered_net_of, numbers_of}
use Rattle.rn_numbered.specs.Numbered.{expr_of}
use Rattle.rn_rules.specs.Systems.{scope_of}
use Rattle.rn_check.specs.Checked.{Checked}
use Rattle.rn_spelled.specs.WellFormed.{IsWellFormed}

-- an expression in which nothing is broken has, with numbers in place of names, exactly the kinds
-- that come of its pattern
abbrev pub CheckedExpressionsHaveKinds : Type 0
CheckedExpressionsHaveKinds = (plain : Plain) (net : PNet) (at : Where) (e : PExpr) (kind : Kind) →
    at.pattern_of_var ≡ (scope_of plain net).pattern_of_var → (seen_of e at).faults ≡ [] →
    IsKindBy (seen_of e at).pattern kind
    ↔ HasExprKind (var_kind_in (numbered_net_of plain net)) (expr_of e (numbers_of plain net).var) kind

-- A plain form that is well formed, and in which nothing is broken, means a good system.
abbrev pub CheckedSystemsAreGood : Type 0
CheckedSystemsAreGood = (plain : Plain) (system : System) → Checked plain system →
    IsWellFormed plain → Good system

-- A text in which nothing is broken means a good system.
abbrev pub CheckedTextsAreGood : Type 0
CheckedTextsAreGood = (bytes : List ℕ) (plain : Plain) (system : System) → Spells bytes plain →
    Checked plain system → Good system
