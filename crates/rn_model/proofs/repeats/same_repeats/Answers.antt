use Rattle.std.proofs.Common.{ap, sym, ◌∙◌}
use Rattle.rn_model.specs.Repeats.{repeats_of, values_of}
use Rattle.rn_model.proofs.RepeatedValues.{repeats_hold_values}
use Rattle.rn_model.proofs.repeats.same_repeats.Goals as goal

pub returns : goal.returns
returns c =
    let a = c.args.a.now in
    let b = c.args.b.now in (
      λ t. sym (repeats_hold_values a)
          ∙ ap values_of (sym c.as_slice.ensures ∙ c.same_parts.ensures.0 t ∙ c.as_slice-2.ensures)
          ∙ repeats_hold_values b,
      λ e. c.same_parts.ensures.1 (c.as_slice.ensures ∙ ap repeats_of e ∙ sym c.as_slice-2.ensures),
    )
