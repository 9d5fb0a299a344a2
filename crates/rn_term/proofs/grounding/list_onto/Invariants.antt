use Rattle.std.proofs.Common.{◌≡◌, ◌++◌, take}
use Rattle.rn_term.proofs.grounding.list_onto.Given as goal

abbrev pub invariant-loop-item : goal.invariant-loop-item
invariant-loop-item l = l.all.items ≡ l.fn.values.items ++ take l.item-index l.item-items
