use Rattle.std.proofs.Common.{ap, sym, ◌∙◌}
use Rattle.rn_model.specs.Repeats.{repeats_of}
use Rattle.rn_model.proofs.RepeatedValues.{parted_again}
use Rattle.rn_model.proofs.repeats.Repeats.as_slice.Goals as goal

pub returns : goal.returns
returns c =
    c.as_slice.ensures.value
    ∙ sym (parted_again c.self.inside.parts.items c.self.invariant)
    ∙ ap repeats_of c.self.view_is
