use Rattle.std.proofs.Common.{ℕ, take}
use Rattle.std.specs.Prelude.{Contains}
use Rattle.rn_holders.specs.Holders.{KeepHolders, held_by}
use Rattle.rn_holders.proofs.holding.hold_from.Given as goal

abbrev pub invariant-loop-number : goal.invariant-loop-number
invariant-loop-number l =
    KeepHolders l.initial.holders.items l.holders.items
    × ((n : ℕ) → Contains (take l.number-index l.number-items) n →
    Contains (held_by l.holders.items n) l.holder)
