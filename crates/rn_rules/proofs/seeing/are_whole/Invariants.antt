-- All were whole so far.
use Rattle.std.proofs.Common.{◌≡◌, drop}
use Rattle.std.specs.List.{list_all}
use Rattle.rn_rules.proofs.seeing.are_whole.Given as goal

abbrev pub invariant-loop-sight : goal.invariant-loop-sight
invariant-loop-sight g l =
    list_all (λ s. s.whole) (drop l.sight-index l.sights) ≡ list_all (λ s. s.whole) l.sights
