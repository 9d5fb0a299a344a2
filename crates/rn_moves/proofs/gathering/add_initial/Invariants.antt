use Rattle.std.proofs.Common.{◌≡◌, ◌++◌, drop}
use Rattle.rn_moves.specs.link.Connecting.{initial_tokens}
use Rattle.rn_moves.proofs.gathering.add_initial.Given as goal

-- the tokens so far and those of the places that are left are all
abbrev pub invariant-loop-i : goal.invariant-loop-i
invariant-loop-i l =
    l.tokens.items ++ initial_tokens l.inst l.i (drop l.i l.places)
    ≡ l.initial.tokens.items ++ initial_tokens l.inst 0 l.places
