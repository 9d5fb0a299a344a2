-- The forms of kinds and expressions, as the model has them.
use Rattle.std.proofs.Common.{◌≡◌, ℕ, List}
use Rattle.rn_notation.specs.declared.token.Spot.{Spot}
use Rattle.rn_value.specs.declared.value.Kind.{Kind}
use Rattle.rn_model.specs.declared.expr.Expr.{Expr}
use Rattle.rn_inscript.specs.declared.exprs.PExpr.{PExpr, fold-roll-PExpr}
use Rattle.rn_inscript.specs.declared.exprs.PForm.{PForm, map-PForm, roll-PForm, fold-PForm}
use Rattle.rn_inscript.specs.declared.exprs.PForm.{fold-roll-PForm}
use Rattle.rn_inscript.specs.declared.exprs.PForm.TheOpen as F
use Rattle.rn_inscript.specs.Expressions.{at_spot}
use Rattle.rn_net.specs.declared.kinds.PKind.{fold-roll-PKind}
use Rattle.rn_net.specs.declared.kinds.PKindForm.{PKindForm, fold-PKindForm}
use Rattle.rn_net.specs.Kinds.{kind_at}
use Rattle.rn_numbered.specs.Numbered.{kind_of, kind_of_form, expr_of, expr_of_form}

abbrev pub form_kind : PKindForm → Kind
form_kind = fold-PKindForm Kind Kind kind_of_form (λ kind. kind.form)

-- a kind means what its form means, wherever it stands
pub kind-at : (s : Spot) (f : PKindForm) → kind_of (kind_at s f) ≡ form_kind f
kind-at s f =
    fold-roll-PKind Kind Kind kind_of_form (λ kind. kind.form) (record { form = f; spot = s })

abbrev pub Numbered : Type 0
Numbered = (List ℕ → ℕ) → Expr

abbrev pub form_expr : PForm → Numbered
form_expr = fold-PForm Numbered Numbered expr_of_form (λ e. e.form)

-- an expression means what its form means, wherever it stands
pub expr-at : (s : Spot) (f : PForm) → expr_of (at_spot s f) ≡ form_expr f
expr-at s f =
    fold-roll-PExpr Numbered Numbered expr_of_form (λ e. e.form) (record { form = f; spot = s })

-- what a form means, by what its parts mean
pub expr-roll : (x : F.PForm-F PForm PExpr) →
    form_expr (roll-PForm x)
    ≡ expr_of_form (map-PForm PForm PExpr Numbered Numbered form_expr expr_of x)
expr-roll x = fold-roll-PForm Numbered Numbered expr_of_form (λ e. e.form) x
