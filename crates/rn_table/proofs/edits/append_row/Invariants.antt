use Rattle.std.proofs.Common.{false, ◌≡◌, ◌++◌, take, map}
use Rattle.rn_table.proofs.edits.append_row.Given as goal

abbrev pub invariant-loop-value : goal.invariant-loop-value
invariant-loop-value l = l.edits.items ≡ l.initial.edits.items ++ map (λ v. record { inst = l.row.inst; place = l.row.place; value = v; puts = l.puts; alone = false }) (take l.value-index l.value-items)
