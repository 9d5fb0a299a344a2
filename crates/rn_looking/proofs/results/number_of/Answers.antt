-- By the value of the expression.
use Rattle.std.proofs.Common.{◌≡◌, sym, ap, ◌∙◌}
use Rattle.std.specs.Prelude.{Some}
use Rattle.rn_value.specs.declared.value.Value.TheVariants as V
use Rattle.rn_model.specs.Evaluation.{worth}
use Rattle.rn_growing.proofs.Growth.{some_equal}
use Rattle.rn_looking.specs.Knowing.{known_env}
use Rattle.rn_looking.proofs.results.number_of.Goals as goal

pub returns-in-Some : goal.returns-in-Some
returns-in-Some c n =
    let is : worth c.args.form.now (known_env c.args.known.now) ≡ Some c.in-Some.value =
    sym c.in_ok-value.ensures.value ∙ c.in-Some.is in (
      λ e. is ∙ ap Some ((c.number_in.ensures n).0 e),
      λ e. (c.number_in.ensures n).1 (some_equal c.in-Some.value (V.Int n) (sym is ∙ e)),
    )
