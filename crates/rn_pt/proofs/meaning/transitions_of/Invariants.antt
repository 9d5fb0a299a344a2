use Rattle.std.proofs.Common.{◌≡◌, ℕ, List, map, take}
use Rattle.rn_pt.specs.Meaning.{wtransition_of}
use Rattle.rn_pt.specs.link.Tables.{FindsAmong}
use Rattle.rn_pt.proofs.meaning.transitions_of.Given as goal

abbrev pub invariant-loop-transition : goal.invariant-loop-transition
invariant-loop-transition l = (names : List (List ℕ)) → FindsAmong names l.table →
    l.made.items ≡ map (wtransition_of names) (take l.transition-index l.transitions)
