-- No line feed stands among the bytes so far.
use Rattle.std.proofs.Common.{◌≡◌, ◌+◌, drop}
use Rattle.std.specs.Prelude.{not, nat_eq}
use Rattle.std.specs.List.{prefix_len}
use Rattle.rn_commands.proofs.replays.line_length.Given as goal

abbrev pub invariant-loop-i : goal.invariant-loop-i
invariant-loop-i l =
    l.i + prefix_len (λ c. not (nat_eq c 10)) (drop l.i l.bytes)
    ≡ prefix_len (λ c. not (nat_eq c 10)) l.bytes
