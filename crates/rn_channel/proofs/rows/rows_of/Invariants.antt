use Rattle.std.proofs.Common.{◌≡◌, ◌++◌, ℕ, drop}
use Rattle.rn_channel.specs.Answering.{answering_from}
use Rattle.rn_channel.specs.link.Kept.{looked_up}
use Rattle.rn_channel.proofs.rows.rows_of.Given as goal

-- the row so far and what the transitions left add to it are the whole row
abbrev pub invariant-loop-i : goal.invariant-loop-i
invariant-loop-i l = (c : ℕ) →
    looked_up l.rows c ++ answering_from c l.i (drop l.i l.net.transitions)
    ≡ answering_from c 0 l.net.transitions
