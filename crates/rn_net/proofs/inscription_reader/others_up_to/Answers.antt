use Rattle.rn_net.proofs.Names.{◌-◌, ◌∙◌, ap, arith, inl, inr, subst, sym, Err, err_from_is_err_and, EndsStatement}
use Rattle.rn_net.proofs.inscription_reader.others_up_to.Goals as goal

pub returns-in_err-more-clause-reads : goal.returns-in_err-more-clause-reads
returns-in_err-more-clause-reads c =
    let p = err_from_is_err_and c.from_residual.result c.from_residual.ensures.1 in
    subst (EndsStatement c.args.notation (c.args.after - c.args.at) c.args.first.now
    c.args.tokens.now c.args.after) (sym (p.1 ∙ ap Err p.2))
    (inr (c.in-Some.kind, c.in-Some.place.now, c.in-Some.ensures, c.in_err-more.ensures.reads))

pub returns-in_err-others-clause-reads : goal.returns-in_err-others-clause-reads
returns-in_err-others-clause-reads c =
    let p = err_from_is_err_and c.from_residual-in_err-others.result
    c.from_residual-in_err-others.ensures.1 in
    subst (EndsStatement c.args.notation (c.args.after - c.args.at) c.args.first.now
    c.args.tokens.now c.args.after) (sym (p.1 ∙ ap Err p.2))
    (inr (c.in-Some.kind, c.in-Some.place.now, c.in-Some.ensures, λ count. tt))

pub returns-in-Some-clause-reads : goal.returns-in-Some-clause-reads
returns-in-Some-clause-reads c =
    inr (
      c.in-Some.kind,
      c.in-Some.place.now,
      c.in-Some.ensures,
      (c.in_ok-more.more, c.in_ok-others.ensures, c.in_ok-more.ensures.reads),
    )

pub returns-in_err-end-clause-reads : goal.returns-in_err-end-clause-reads
returns-in_err-end-clause-reads c =
    let p = err_from_is_err_and c.from_residual-in_err-end.result
    c.from_residual-in_err-end.ensures.1 in
    subst (EndsStatement c.args.notation (c.args.after - c.args.at) c.args.first.now
    c.args.tokens.now c.args.after) (sym (p.1 ∙ ap Err p.2))
    (inl (c.in_default.ensures, c.in_err-end.ensures))

pub returns-clause-reads : goal.returns-clause-reads
returns-clause-reads c =
    inl (
      c.in_default.ensures,
      (c.new.ensures, (_, c.in_ok-end.ensures.0), c.in_ok-end.ensures.1),
    )

pub returns-clause-moved : goal.returns-clause-moved
returns-clause-moved c = (
  omega (arith, c.in_ok-end.ensures.1),
  omega (arith, c.in_ok-end.ensures.0.1.1, c.in_ok-end.ensures.1),
)
