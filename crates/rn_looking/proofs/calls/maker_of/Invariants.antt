use Rattle.std.proofs.Common.{◌≡◌, false, take}
use Rattle.std.specs.List.{list_any}
use Rattle.rn_search.specs.Making.{makes}
use Rattle.rn_looking.proofs.calls.maker_of.Given as goal

-- none of the first decisions makes it
abbrev pub invariant-loop-k : goal.invariant-loop-k
invariant-loop-k l = list_any (makes l.system l.path l.j) (take l.k l.decisions) ≡ false
