-- The text of an expression, and the expression without its spots, by its parts.
use Rattle.std.proofs.Common.{◌≡◌, ℕ, ℤ, List, ◌++◌, map, ap, ◌∙◌}
use Rattle.std.specs.Prelude.{codes, nat_lt, if◌then◌else◌}
use Rattle.rn_value.specs.Text.{whole_number, quoted}
use Rattle.rn_notation.specs.declared.token.Spot.{Spot}
use Rattle.rn_model.specs.declared.expr.OpKind.{OpKind}
use Rattle.rn_inscript.specs.declared.exprs.PExpr.{PExpr, fold-roll-PExpr}
use Rattle.rn_inscript.specs.declared.exprs.PForm.{PForm, fold-PForm, fold_out-PForm, map-PForm, out-PForm, roll-PForm}
use Rattle.rn_inscript.specs.declared.exprs.PForm.TheVariants as F
use Rattle.rn_inscript.specs.Expressions.{at_spot}
use Rattle.rn_print.specs.Pieces.{in_parentheses}
use Rattle.rn_print.specs.Expressions.{Operand, row, joined_text, strength, form_step, expr_step, operand_text}
use Rattle.rn_print.specs.SameButSpots.{expr_unplaced, expr_moved, first_spot}

-- the text of a form
abbrev pub form_text : PForm → Operand
form_text = fold-PForm Operand Operand form_step expr_step

-- the text of an expression is that of its form, wherever it stands
pub text-at : (s : Spot) (form : PForm) (n : ℕ) → operand_text (at_spot s form) n ≡ form_text form n
text-at s form n = ap (λ f. f n) (fold-roll-PExpr Operand Operand form_step expr_step (record { form = form; spot = s }))

out : (form : PForm) (n : ℕ) →
    form_text form n
    ≡ form_step (map-PForm PForm _ Operand Operand form_text operand_text (out-PForm form)) n
out form n = ap (λ f. f n) (fold_out-PForm Operand Operand form_step expr_step form)

-- the text of each form
pub text-Int : (z : ℤ) (n : ℕ) → form_text (F.Int z) n ≡ whole_number z
text-Int z n = out (F.Int z) n ∙ rw (F.outs-Int z)

pub text-Text : (t : List ℕ) (n : ℕ) → form_text (F.Text t) n ≡ quoted t
text-Text t n = out (F.Text t) n ∙ rw (F.outs-Text t)

pub text-Name : (t : List ℕ) (n : ℕ) → form_text (F.Name t) n ≡ t
text-Name t n = out (F.Name t) n ∙ rw (F.outs-Name t)

pub text-This : (n : ℕ) → form_text F.This n ≡ codes "this"
text-This n = out F.This n ∙ rw F.outs-This

pub text-Step : (n : ℕ) → form_text F.Step n ≡ codes "step()"
text-Step n = out F.Step n ∙ rw F.outs-Step

pub text-Tuple : (es : List PExpr) (n : ℕ) →
    form_text (F.Tuple es) n ≡ codes "[" ++ row (map operand_text es) ++ codes "]"
text-Tuple es n = out (F.Tuple es) n ∙ rw (F.outs-Tuple es)

pub text-List : (es : List PExpr) (n : ℕ) →
    form_text (F.List es) n ≡ codes "{" ++ row (map operand_text es) ++ codes "}"
text-List es n = out (F.List es) n ∙ rw (F.outs-List es)

pub text-Cons : (es : List PExpr) (e : PExpr) (n : ℕ) →
    form_text (F.Cons es e) n
    ≡ codes "{" ++ row (map operand_text es) ++ codes ":" ++ operand_text e 0 ++ codes "}"
text-Cons es e n = out (F.Cons es e) n ∙ rw (F.outs-Cons es e)

pub text-Neg : (e : PExpr) (n : ℕ) → form_text (F.Neg e) n ≡ codes "-" ++ operand_text e 3
text-Neg e n = out (F.Neg e) n ∙ rw (F.outs-Neg e)

pub text-Op : (op : OpKind) (a b : PExpr) (n : ℕ) →
    form_text (F.Op op a b) n
    ≡ (if nat_lt (strength op) n then in_parentheses (joined_text op (operand_text a) (operand_text b))
    else joined_text op (operand_text a) (operand_text b))
text-Op op a b n = out (F.Op op a b) n ∙ rw (F.outs-Op op a b)

-- the same without spots
abbrev pub form_unplaced : PForm → PForm
form_unplaced = fold-PForm PForm PExpr roll-PForm expr_moved

pub unplaced-at : (s : Spot) (form : PForm) →
    expr_unplaced (at_spot s form) ≡ at_spot first_spot (form_unplaced form)
unplaced-at s form = fold-roll-PExpr PForm PExpr roll-PForm expr_moved (record { form = form; spot = s })

pub bare : (form : PForm) →
    form_unplaced form
    ≡ roll-PForm (map-PForm PForm PExpr PForm PExpr form_unplaced expr_unplaced (out-PForm form))
bare form = fold_out-PForm PForm PExpr roll-PForm expr_moved form

pub bare-Tuple : (es : List PExpr) → form_unplaced (F.Tuple es) ≡ F.Tuple (map expr_unplaced es)
bare-Tuple es = bare (F.Tuple es) ∙ rw (F.outs-Tuple es) (F.rolls-Tuple (map expr_unplaced es))

pub bare-List : (es : List PExpr) → form_unplaced (F.List es) ≡ F.List (map expr_unplaced es)
bare-List es = bare (F.List es) ∙ rw (F.outs-List es) (F.rolls-List (map expr_unplaced es))

pub bare-Cons : (es : List PExpr) (e : PExpr) →
    form_unplaced (F.Cons es e) ≡ F.Cons (map expr_unplaced es) (expr_unplaced e)
bare-Cons es e =
    bare (F.Cons es e) ∙ rw (F.outs-Cons es e) (F.rolls-Cons (map expr_unplaced es) (expr_unplaced e))

pub bare-Neg : (e : PExpr) → form_unplaced (F.Neg e) ≡ F.Neg (expr_unplaced e)
bare-Neg e = bare (F.Neg e) ∙ rw (F.outs-Neg e) (F.rolls-Neg (expr_unplaced e))

pub bare-Op : (op : OpKind) (a b : PExpr) →
    form_unplaced (F.Op op a b) ≡ F.Op op (expr_unplaced a) (expr_unplaced b)
bare-Op op a b =
    bare (F.Op op a b) ∙ rw (F.outs-Op op a b) (F.rolls-Op op (expr_unplaced a) (expr_unplaced b))
