use Rattle.std.proofs.Common.{◌≡◌, ◌++◌, take, map}
use Rattle.std.specs.Prelude.{filter}
use Rattle.rn_table.specs.link.Leaves.{has_number}
use Rattle.rn_table.proofs.page.Page.append_to.Given as goal

abbrev pub invariant-loop-inst : goal.invariant-loop-inst
invariant-loop-inst l = l.numbers.items ≡ l.initial.numbers.items ++ map (λ i. i.number) (filter (has_number l.kept) (map (λ i. i.value) (take l.inst-index l.inst-items)))
