use Rattle.std.proofs.Common.{ℕ, ◌<◌, get_or}
use Rattle.rn_model.specs.Markings.{tokens}
use Rattle.rn_arcs.specs.link.Meeting.{Meets}
use Rattle.rn_arcs.specs.declared.asked.Asked.{Asked}
use Rattle.rn_arcs.proofs.fitting.all_fit.Given as goal

abbrev pub invariant-loop-asked : goal.invariant-loop-asked
invariant-loop-asked l =
    (k : ℕ) (d : Asked) → k < l.asked-index →
    Meets (tokens l.table.marking (get_or l.places k d).inst (get_or l.places k d).place)
    (get_or l.places k d)
