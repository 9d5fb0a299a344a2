-- What was put is what occurs.
use Rattle.std.proofs.Common.{◌∙◌, ◌++◌, ap, subst}
use Rattle.rn_model.specs.Good.{occurring}
use Rattle.rn_occurring.proofs.MarkLemmas.{AreMarked}
use Rattle.rn_occurring.proofs.marks.occurring_marks.Goals as goal

pub returns : goal.returns
returns c = (
  c.in_ok-marks_of.ensures.0,
  subst (AreMarked c.in_ok-marks_of.field-0.items c.args.count)
      (c.as_slice.ensures.value ∙ c.in_ok-put_occurring.ensures
      ∙ ap (λ xs. xs ++ occurring c.args.t.now) c.new-occurring.ensures.items)
      c.in_ok-marks_of.ensures.1,
)
