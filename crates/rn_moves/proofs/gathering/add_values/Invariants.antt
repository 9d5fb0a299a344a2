use Rattle.std.proofs.Common.{◌≡◌, ◌++◌, take}
use Rattle.rn_moves.specs.link.Connecting.{tokens_at_place}
use Rattle.rn_moves.proofs.gathering.add_values.Given as goal

abbrev pub invariant-loop-value : goal.invariant-loop-value
invariant-loop-value l =
    l.tokens.items
    ≡ l.initial.tokens.items ++ tokens_at_place l.inst l.place (take l.value-index l.values)
