-- What is written so far and the bindings to come are all.
use Rattle.std.proofs.Common.{◌≡◌, ◌++◌, ◌+◌, drop}
use Rattle.rn_served.specs.Listed.{numbered_text}
use Rattle.rn_session.proofs.listing.put_all.Given as goal

abbrev pub invariant-loop-k : goal.invariant-loop-k
invariant-loop-k l =
    (l.names ≡ l.initial.names)
    × (l.out.items ++ numbered_text l.system l.initial.names (l.k + 1) (drop l.k l.found)
    ≡ l.initial.out.items ++ numbered_text l.system l.initial.names 1 l.found)
