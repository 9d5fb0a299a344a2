use Rattle.std.proofs.Common.{sym, ◌∙◌}
use Rattle.rn_unify.proofs.classes.Classes.link_roots.Goals as goal

pub returns-then-x-y : goal.returns-then-x-y
returns-then-x-y c = record {
  fits = λ f fits same.
      c.link.ensures.fits f fits
      (sym (c.root-y.ensures.same f fits) ∙ sym same ∙ c.root-x.ensures.same f fits);
}

pub returns-then-y-x : goal.returns-then-y-x
returns-then-y-x c = record {
  fits = λ f fits same.
      c.link-then-y-x.ensures.fits f fits
      (sym (c.root-x.ensures.same f fits) ∙ same ∙ c.root-y.ensures.same f fits);
}
