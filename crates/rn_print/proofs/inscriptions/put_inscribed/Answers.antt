-- `action print ` and then the expression.
use Rattle.std.proofs.Common.{◌++◌, ap, ◌∙◌, sym, append_assoc}
use Rattle.std.specs.Prelude.{codes}
use Rattle.std.proofs.lemmas.Result.{IfOk-equal}
use Rattle.rn_print.specs.Expressions.{expr_text}
use Rattle.rn_print.specs.Inscriptions.{inscribed_text}
use Rattle.rn_print.proofs.inscriptions.put_inscribed.Goals as goal

pub returns-in_ok-put-in-Print : goal.returns-in_ok-put-in-Print
returns-in_ok-put-in-Print c =
    let text = expr_text c.in-Print.expr in
    IfOk-equal c.put_expr.result c.put_expr.new.out.items (c.put-in-Print.new.out.items ++ text)
    (c.args.out.now.items ++ inscribed_text c.args.form.now) c.put_expr.ensures
    (ap (λ out. out ++ text) c.in_ok-put-in-Print.ensures
    ∙ append_assoc c.args.out.now.items (codes "action print ") text
    ∙ ap (λ form. c.args.out.now.items ++ inscribed_text form) (sym c.in-Print.is))
