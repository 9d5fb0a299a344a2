use Rattle.std.proofs.Common.{◌≡◌, ◌++◌}
use Rattle.std.specs.List.{flat_map}
use Rattle.rn_moves.specs.link.Connecting.{row_tokens}
use Rattle.rn_moves.proofs.gathering.add_rows.Given as goal

abbrev pub invariant-loop-row : goal.invariant-loop-row
invariant-loop-row l =
    l.tokens.items ≡ l.initial.tokens.items ++ flat_map row_tokens l.yielded
