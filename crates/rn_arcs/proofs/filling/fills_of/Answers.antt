use Rattle.std.proofs.Common.{◌≡◌, ◌∙◌, ap, sym, subst}
use Rattle.std.specs.Prelude.{filter}
use Rattle.std.specs.List.Sorted.{IsPermutation}
use Rattle.rn_model.specs.Demands.{filled_at}
use Rattle.rn_arcs.specs.Demanded.{HasFills, fill_place}
use Rattle.rn_arcs.specs.link.Fillings.{pour_place, fills_of}
use Rattle.rn_arcs.specs.link.Joining.{Rising}
use Rattle.rn_arcs.specs.Places.{is_at}
use Rattle.rn_arcs.proofs.FillLemmas.{fills_are, fills_rise}
use Rattle.rn_arcs.proofs.filling.fills_of.Goals as goal

pub returns-clause-exact : goal.returns-clause-exact
returns-clause-exact c =
    let sorted = c.sort_pours.new.pours.items in
    let same : c.from_vec.result ≡ fills_of sorted =
    c.from_vec.ensures ∙ c.in_ok-fills.ensures ∙ ap fills_of c.as_slice.ensures.value in
    subst (λ fs. HasFills fs (filled_at c.args.system.now c.args.binding.now)) (sym same)
    (fills_are c.args.system.now c.args.binding.now sorted c.in_ok-sort_pours.ensures.sorted
    (λ k. c.sort_pours.ensures.stable k
    ∙ ap (filter (λ p. is_at k (pour_place p))) c.in_ok-pours.ensures)
    (subst (λ ps. IsPermutation ps sorted) c.in_ok-pours.ensures c.sort_pours.ensures.same))

pub returns-clause-rises : goal.returns-clause-rises
returns-clause-rises c =
    let sorted = c.sort_pours.new.pours.items in
    let same : c.from_vec.result ≡ fills_of sorted =
    c.from_vec.ensures ∙ c.in_ok-fills.ensures ∙ ap fills_of c.as_slice.ensures.value in
    subst (Rising fill_place) (sym same) (fills_rise sorted c.in_ok-sort_pours.ensures.sorted)
