-- One expression after another, each numbered at once.
use Rattle.std.proofs.Common.{◌∙◌, ap, map}
use Rattle.rn_numbered.specs.Numbered.{expr_of, number_in}
use Rattle.rn_numbered.proofs.GuardLemmas.{exprs_are}
use Rattle.rn_numbered.proofs.inscribed.args_of.Goals as goal

pub returns : goal.returns
returns c =
    c.in_ok-exprs_of.ensures
    ∙ exprs_are c.as_slice.result.now (number_in c.args.vars.now)
    ∙ ap (map (λ e. expr_of e (number_in c.args.vars.now))) c.as_slice.ensures
