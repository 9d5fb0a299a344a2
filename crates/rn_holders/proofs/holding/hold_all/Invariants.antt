use Rattle.std.proofs.Common.{take}
use Rattle.rn_holders.specs.Holders.{KeepHolders, HaveTheseHolders}
use Rattle.rn_holders.proofs.holding.hold_all.Given as goal

abbrev pub invariant-loop-holder : goal.invariant-loop-holder
invariant-loop-holder l =
    KeepHolders l.initial.holders.items l.holders.items
    × HaveTheseHolders l.table.marking (take l.holder-index l.those) l.holders.items
