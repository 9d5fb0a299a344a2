use Rattle.rn_unify.proofs.classes.Classes.join.Goals as goal

pub returns : goal.returns
returns c = record {
  fits = λ f fits same.
      c.link_roots.ensures.fits f (c.make_room.ensures.fits f fits) same;
}
