-- What each form of expressions is seen as.
use Rattle.std.proofs.Common.{◌≡◌, ◌∙◌, ap, List, map}
use Rattle.rn_notation.specs.declared.token.Spot.{Spot}
use Rattle.rn_model.specs.declared.expr.OpKind.{OpKind}
use Rattle.rn_inscript.specs.declared.exprs.PExpr.{PExpr, fold_out-PExpr}
use Rattle.rn_inscript.specs.declared.exprs.PForm.{PForm, fold-PForm, fold_out-PForm, map-PForm}
use Rattle.rn_inscript.specs.declared.exprs.PForm.{out-PForm}
use Rattle.rn_inscript.specs.declared.exprs.PForm.TheVariants as Form
use Rattle.rn_declared.specs.declared.pattern.Pattern.TheVariants as Pattern
use Rattle.rn_rules.specs.Expressions.{Where, Seen, seen_of, seen_form, whole, listed}
use Rattle.rn_rules.specs.Expressions.{with_element, with_elements, operands_faults}

abbrev Parts : Type 0
Parts = Where → Seen

abbrev Forms : Type 0
Forms = Spot → Where → Seen

-- a form as it is seen at a spot
abbrev form_seen : PForm → Forms
form_seen = fold-PForm Forms Parts seen_form (λ e. e.form e.spot)

seen_at : (e : PExpr) (form : PForm) (place : Where) → e.form ≡ form →
    seen_of e place ≡ form_seen form e.spot place
seen_at e form place h =
    ap (λ f. f place) (fold_out-PExpr Forms Parts seen_form (λ e. e.form e.spot) e)
    ∙ ap (λ f. form_seen f e.spot place) h

out : (form : PForm) (spot : Spot) (place : Where) →
    form_seen form spot place
    ≡ seen_form (map-PForm PForm PExpr Forms Parts form_seen seen_of (out-PForm form)) spot place
out form spot place =
    ap (λ f. f spot place) (fold_out-PForm Forms Parts seen_form (λ e. e.form e.spot) form)

pub seen_list : (e : PExpr) (parts : List PExpr) (place : Where) → e.form ≡ Form.List parts →
    seen_of e place
    ≡ listed (with_elements (whole e.spot Pattern.Any) (map (λ s. s place) (map seen_of parts)))
seen_list e parts place h =
    seen_at e (Form.List parts) place h
    ∙ out (Form.List parts) e.spot place
    ∙ rw (Form.outs-List parts)

pub seen_cons : (e : PExpr) (parts : List PExpr) (tail : PExpr) (place : Where) →
    e.form ≡ Form.Cons parts tail →
    seen_of e place
    ≡ with_element
    (listed (with_elements (whole e.spot Pattern.Any) (map (λ s. s place) (map seen_of parts))))
    (seen_of tail place)
seen_cons e parts tail place h =
    seen_at e (Form.Cons parts tail) place h
    ∙ out (Form.Cons parts tail) e.spot place
    ∙ rw (Form.outs-Cons parts tail)

pub seen_op : (e : PExpr) (op : OpKind) (a b : PExpr) (place : Where) → e.form ≡ Form.Op op a b →
    seen_of e place
    ≡ record {
      spot = e.spot;
      faults = operands_faults (seen_of a place) (seen_of b place);
      pattern = Pattern.Int;
    }
seen_op e op a b place h =
    seen_at e (Form.Op op a b) place h
    ∙ out (Form.Op op a b) e.spot place
    ∙ rw (Form.outs-Op op a b)
