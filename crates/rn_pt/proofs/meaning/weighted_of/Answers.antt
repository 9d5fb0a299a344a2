-- The numbers of a net in which nothing is broken fit.
use Rattle.std.proofs.Common.{◌≡◌, ◌<◌, ap, sym, subst, arith}
use Rattle.std.specs.Prelude.{All, ◌^◌, [], slice_index_or}
use Rattle.rn_pt.specs.declared.plain.PtPlace.{PtPlace}
use Rattle.rn_pt.specs.declared.plain.PtTransition.{PtTransition}
use Rattle.rn_pt.specs.Meaning.{amount, number_or_first}
use Rattle.rn_pt.specs.Rules.{place_broken, place_names}
use Rattle.rn_pt.proofs.UnbrokenLemmas.{each_unbroken, unbroken_parts, numbers_fit, arc_unbroken, weight_within}
use Rattle.rn_pt.proofs.meaning.weighted_of.Goals as goal

pub places_of-requires : goal.places_of-requires
places_of-requires c = record {
  unbroken = subst (All (λ (place : PtPlace). place_broken place ≡ [])) (sym c.as_slice.ensures)
      (λ k d h. each_unbroken place_broken c.args.net.now.places k d (unbroken_parts c.args.net.now c.requires.unbroken).initials h);
}

pub transitions_of-requires-clause-few : goal.transitions_of-requires-clause-few
transitions_of-requires-clause-few c = λ name.
    omega (arith, ap number_or_first (c.requires.found name), numbers_fit c.args.net.now c.requires.unbroken name)

pub transitions_of-requires-clause-fits : goal.transitions_of-requires-clause-fits
transitions_of-requires-clause-fits c =
    let net = c.args.net.now in
    subst (All (λ (t : PtTransition). All (λ arc. amount 1 arc.weight < 2 ^ 32) t.arcs)) (sym c.as_slice-2.ensures)
    (λ k d h j e i.
    let arc = slice_index_or (slice_index_or net.transitions k d).arcs j e in
    let fits = (weight_within (place_names net) arc (arc_unbroken net c.requires.unbroken k d h j e i)).1 in
    omega (arith, fits))
