use Rattle.std.proofs.Common.{◌≡◌, ◌+◌, ◌++◌, drop}
use Rattle.rn_moves.specs.link.Connecting.{made_tokens}
use Rattle.rn_moves.proofs.gathering.add_made.Given as goal

-- the tokens so far and those of the instances that are left are all
abbrev pub invariant-loop-k : goal.invariant-loop-k
invariant-loop-k l =
    l.tokens.items ++ made_tokens l.system (l.next + l.k) (drop l.k l.nets)
    ≡ l.initial.tokens.items ++ made_tokens l.system l.next l.nets
