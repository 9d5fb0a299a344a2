use Rattle.rn_net.proofs.Names.{◌∙◌, ap, subst, sym, Err, err_from_is_err_and, HeaderAnswer}
use Rattle.rn_net.proofs.Headers.{header_given, header_none, header_open, header_unclosed}
use Rattle.rn_net.proofs.system_reader.notation.Goals as goal

pub returns-in_err-after_number-clause-reads : goal.returns-in_err-after_number-clause-reads
returns-in_err-after_number-clause-reads c =
    let p = err_from_is_err_and c.from_residual.result c.from_residual.ensures.1 in
    subst (HeaderAnswer c.args.tokens.now)
    (sym (p.1 ∙ ap Err (p.2 ∙ c.in_err-after_number.ensures.1)))
    (header_open c.args.tokens.now c.in-Some.after_name c.in-Some.ensures.0 c.in-Some.ensures.1
    c.in_err-after_number.ensures.0)

pub returns-in_err-end-clause-reads : goal.returns-in_err-end-clause-reads
returns-in_err-end-clause-reads c =
    let p = err_from_is_err_and c.from_residual-in_err-end.result
    c.from_residual-in_err-end.ensures.1 in
    subst (HeaderAnswer c.args.tokens.now)
    (sym (p.1 ∙ ap Err (p.2 ∙ c.in_err-end.ensures.1)))
    (header_unclosed c.args.tokens.now c.in-Some.after_name c.in_ok-after_number.after_number
    c.in-Some.ensures.0 c.in-Some.ensures.1 c.in_ok-after_number.ensures.0
    c.in_ok-after_number.ensures.1 c.in_err-end.ensures.0)

pub returns-in-Some-clause-reads : goal.returns-in-Some-clause-reads
returns-in-Some-clause-reads c =
    header_given c.args.tokens.now c.in-Some.after_name c.in_ok-after_number.after_number
    c.in_ok-end.end c.in-Some.ensures.0 c.in-Some.ensures.1 c.in_ok-after_number.ensures.0
    c.in_ok-after_number.ensures.1 c.in_ok-end.ensures.0 c.in_ok-end.ensures.1

pub returns-clause-reads : goal.returns-clause-reads
returns-clause-reads c = header_none c.args.tokens.now c.in_default.ensures
