use Rattle.std.proofs.Common.{◌≡◌, ◌<◌, length, rules}
use Rattle.rn_finder.proofs.FirstBindings.{first_sorted, none_sorted}
use Rattle.rn_finder.proofs.first.first_of.Goals as goal

pub returns-then-is_empty : goal.returns-then-is_empty
returns-then-is_empty c =
    let sorted = c.sort_bindings.new.found.items in
    let none : length sorted ≡ 0 = search rules in
    none_sorted c.args.found.items sorted c.in_ok-sort_bindings.ensures.same none

pub returns : goal.returns
returns c =
    let sorted = c.sort_bindings.new.found.items in
    let some : 0 < length sorted = search rules in
    first_sorted c.args.found.items sorted c.in_ok-sort_bindings.ensures.same
    c.in_ok-sort_bindings.ensures.sorted c.swap_remove.result some c.swap_remove.ensures.value
