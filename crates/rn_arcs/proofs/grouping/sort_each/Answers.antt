use Rattle.std.proofs.Common.{◌∙◌, ap, arith}
use Rattle.std.specs.Prelude.{slice_set}
use Rattle.std.proofs.lemmas.List.Edits.{map_over_more}
use Rattle.rn_arcs.specs.link.Groups.{in_order}
use Rattle.rn_arcs.proofs.grouping.sort_each.Goals as goal

pub loop-k-preserved : goal.loop-k-preserved
loop-k-preserved c =
    ap (slice_set c.loop-k.places.items c.loop-k.k) c.in_ok-sort.ensures
    ∙ map_over_more in_order c.args.places.now.items c.loop-k.places.items c.loop-k.k
    c.index_mut.result.now (omega arith) c.loop-k.invariant c.index_mut.ensures.value
