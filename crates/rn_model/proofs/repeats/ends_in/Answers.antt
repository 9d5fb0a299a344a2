use Rattle.std.proofs.Common.{ap, sym, ◌∙◌}
use Rattle.std.specs.Option.{option_copied}
use Rattle.rn_model.proofs.RepeatedValues.{ends_by_last}
use Rattle.rn_model.proofs.repeats.ends_in.Goals as goal

pub returns-in-Some : goal.returns-in-Some
returns-in-Some c =
    let last = sym c.last.ensures.value ∙ ap option_copied c.in-Some.is in
    let by = ends_by_last c.args.parts.now c.in-Some.last.now c.args.value.now last in
    (λ t. by.0 (c.same.ensures.0 t), λ e. c.same.ensures.1 (by.1 e))
