use Rattle.std.proofs.Common.{◌≡◌, ℕ, List, map, take}
use Rattle.rn_pt.specs.Meaning.{warc_of}
use Rattle.rn_pt.specs.link.Tables.{FindsAmong}
use Rattle.rn_pt.proofs.meaning.transition_of.Given as goal

abbrev pub invariant-loop-arc : goal.invariant-loop-arc
invariant-loop-arc l = (names : List (List ℕ)) → FindsAmong names l.table →
    l.arcs.items ≡ map (warc_of names) (take l.arc-index l.arc-items)
