-- The canonical text of expressions.
use Rattle.std.specs.Prelude.{ℕ, suc, List, ◌++◌, map, codes, nat_lt, if◌then◌else◌}
use Rattle.std.specs.List.{join_by}
use Rattle.rn_value.specs.Text.{whole_number, quoted}
use Rattle.rn_model.specs.declared.expr.OpKind.{OpKind}
use Rattle.rn_model.specs.declared.expr.OpKind.TheVariants.{Add, Sub, Mul, Div, Rem}
use Rattle.rn_inscript.specs.declared.exprs.PExpr.{PExpr, PExpr-F, fold-PExpr}
use Rattle.rn_inscript.specs.declared.exprs.PForm.TheOpen as F
use Rattle.rn_print.specs.Pieces.{in_parentheses}

-- How tightly an operator binds: `*`, `/` and `%` more than `+` and `-`. Unary `-` binds more than
-- these, and all else most.
abbrev pub strength : OpKind → ℕ
strength Add = 1
strength Sub = 1
strength _ = 2

-- how tightly unary `-` binds
abbrev pub strength_of_minus : ℕ
strength_of_minus = 3

-- an operator, with a space on each side
abbrev pub operator : OpKind → List ℕ
operator Add = codes " + "
operator Sub = codes " - "
operator Mul = codes " * "
operator Div = codes " / "
operator Rem = codes " % "

-- the text of an expression where it has to bind at least so tightly
abbrev pub Operand : Type 0
Operand = ℕ → List ℕ

-- an expression where it may bind as loosely as it does
abbrev pub alone : Operand → List ℕ
alone operand = operand 0

-- expressions with commas between them, and no spaces
abbrev pub row : List Operand → List ℕ
row operands = join_by alone (codes ",") operands

-- two operands with their operator: what stands on its right has to bind more
abbrev pub joined_text : OpKind → Operand → Operand → List ℕ
joined_text op a b = a (strength op) ++ operator op ++ b (suc (strength op))

-- An operand is put in parentheses exactly where it binds less tightly than its operator, or
-- equally and stands on the right of a binary operator. The operand of unary `-` may be another unary `-`.
-- (This is one layer, where each expression in it is given by its text at each strength.)
abbrev pub form_step : F.PForm-F Operand Operand → Operand
form_step (F.Int n) least = whole_number n
form_step (F.Text s) least = quoted s
form_step (F.Name s) least = s
form_step F.This least = codes "this"
form_step F.Step least = codes "step()"
form_step (F.Tuple parts) least = codes "[" ++ row parts ++ codes "]"
form_step (F.List parts) least = codes "{" ++ row parts ++ codes "}"
form_step (F.Cons parts tail) least =
    codes "{" ++ row parts ++ codes ":" ++ alone tail ++ codes "}"
form_step (F.Neg part) least = codes "-" ++ part strength_of_minus
form_step (F.Op op a b) least =
    if nat_lt (strength op) least then in_parentheses (joined_text op a b) else joined_text op a b

abbrev pub expr_step : PExpr-F Operand Operand → Operand
expr_step expr = expr.form

-- the text of an operand of something that binds so tightly
abbrev pub operand_text : PExpr → Operand
operand_text = fold-PExpr Operand Operand form_step expr_step

-- the text of an expression
abbrev pub expr_text : PExpr → List ℕ
expr_text expr = alone (operand_text expr)

-- the text of expressions with commas between them
abbrev pub exprs_text : List PExpr → List ℕ
exprs_text exprs = row (map operand_text exprs)
