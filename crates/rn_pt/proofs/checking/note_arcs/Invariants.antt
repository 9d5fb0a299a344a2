use Rattle.std.proofs.Common.{◌≡◌, take, List, ℕ}
use Rattle.std.specs.Prelude.{flat_map}
use Rattle.rn_pt.specs.Faults.{first_from}
use Rattle.rn_pt.specs.Rules.{arc_broken, number_among}
use Rattle.rn_pt.specs.link.Tables.{found_in}
use Rattle.rn_pt.proofs.checking.note_arcs.Given as goal

abbrev pub invariant-loop-arc : goal.invariant-loop-arc
invariant-loop-arc l = (names : List (List ℕ)) → ((name : List ℕ) → found_in l.table name ≡ number_among names name) →
    l.first.broken ≡ first_from l.initial.first.broken (flat_map (arc_broken names) (take l.arc-index l.arcs))
