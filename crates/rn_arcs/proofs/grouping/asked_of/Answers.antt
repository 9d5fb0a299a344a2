use Rattle.std.proofs.Common.{◌∙◌, ap, subst, map, sym}
use Rattle.std.specs.Prelude.{filter, All}
use Rattle.std.specs.List.Sorted.{IsSorted}
use Rattle.rn_value.specs.Order.{value_cmp}
use Rattle.rn_arcs.specs.link.Asks.{place_asked}
use Rattle.rn_arcs.specs.link.Groups.{AreAsked, in_order}
use Rattle.rn_arcs.specs.Places.{is_at}
use Rattle.rn_arcs.proofs.PlacesInOrder.{are_asked, taken_sorted}
use Rattle.rn_arcs.proofs.grouping.asked_of.Goals as goal

pub returns-clause-asked : goal.returns-clause-asked
returns-clause-asked c =
    subst (AreAsked c.args.outputs c.args.system.now c.args.binding.now)
    (sym (c.in_ok-sort_each.ensures ∙ ap (map in_order) c.in_ok-places.ensures))
    (are_asked c.args.outputs c.args.system.now c.args.binding.now
    c.sort_asks.new.asks.items c.in_ok-sort_asks.ensures.sorted
    (λ k. c.sort_asks.ensures.stable k
    ∙ ap (filter (λ a. is_at k (place_asked a))) c.in_ok-asks.ensures))

pub returns-clause-sorted : goal.returns-clause-sorted
returns-clause-sorted c =
    subst (All (λ g. IsSorted value_cmp g.taken)) (sym c.in_ok-sort_each.ensures)
    (taken_sorted c.in_ok-places.places.items)
