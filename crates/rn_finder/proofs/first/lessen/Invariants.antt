use Rattle.std.proofs.Common.{◌≡◌, []}
use Rattle.rn_search.specs.Sought.{Leads}
use Rattle.rn_finder.proofs.first.lessen.Given as goal

-- it is the same search, and the binding is one of it
abbrev pub invariant-loop-turn : goal.invariant-loop-turn
invariant-loop-turn l =
    (l.lesser.sought ≡ l.initial.lesser.sought) × Leads l.lesser.sought [] l.lesser.than
