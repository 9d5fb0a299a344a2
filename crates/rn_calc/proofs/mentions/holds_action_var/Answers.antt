-- An expression holds an action variable where one of them stands in it.
use Rattle.std.proofs.Common.{◌∙◌, ap}
use Rattle.std.specs.Prelude.{nat_eq}
use Rattle.std.specs.List.{list_any}
use Rattle.rn_model.specs.Systems.{vars_in}
use Rattle.rn_calc.proofs.MentionLemmas.{either_way}
use Rattle.rn_calc.proofs.mentions.holds_action_var.Goals as goal

pub returns : goal.returns
returns c =
    c.mentions.ensures
    ∙ either_way (vars_in c.args.expr.now) c.as_slice.result.now
    ∙ ap (λ ys. list_any (λ y. list_any (nat_eq y) (vars_in c.args.expr.now)) ys)
    c.as_slice.ensures
