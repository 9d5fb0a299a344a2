-- What was put is what actions set.
use Rattle.std.proofs.Common.{◌∙◌, ◌++◌, ap, subst}
use Rattle.std.specs.Prelude.{flat_map}
use Rattle.rn_model.specs.Good.{set_var}
use Rattle.rn_occurring.proofs.MarkLemmas.{AreMarked}
use Rattle.rn_occurring.proofs.marks.action_marks.Goals as goal

pub returns : goal.returns
returns c = (
  c.in_ok-marks_of.ensures.0,
  subst (AreMarked c.in_ok-marks_of.field-0.items c.args.count)
      (c.as_slice-2.ensures.value ∙ c.in_ok-put_set_vars.ensures
      ∙ ap (λ xs. xs ++ flat_map set_var c.as_slice.result.now) c.new-set.ensures.items
      ∙ ap (flat_map set_var) c.as_slice.ensures)
      c.in_ok-marks_of.ensures.1,
)
