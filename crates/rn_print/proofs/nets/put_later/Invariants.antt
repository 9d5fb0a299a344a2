-- What is written, with the text of what is left, is the whole text.
use Rattle.std.proofs.Common.{◌≡◌, ◌++◌, drop}
use Rattle.rn_print.specs.Nets.{later_text}
use Rattle.rn_print.proofs.nets.put_later.Given as goal

abbrev pub invariant-loop-item : goal.invariant-loop-item
invariant-loop-item l =
    l.out.items ++ later_text l.notation l.before (drop l.item-index l.others)
    ≡ l.initial.out.items ++ later_text l.notation l.first l.others
