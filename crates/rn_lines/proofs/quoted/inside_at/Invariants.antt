use Rattle.std.proofs.Common.{◌≡◌, length}
use Rattle.rn_lines.specs.Reading.{inside_at}
use Rattle.rn_lines.proofs.Inside.{with_front}
use Rattle.rn_lines.proofs.quoted.inside_at.Given as goal

-- what is read so far and what the rest means are all
abbrev pub invariant-loop-byte : goal.invariant-loop-byte
invariant-loop-byte l = with_front l.meant.items (inside_at l.rest) ≡ inside_at l.bytes

abbrev pub decreases-loop-byte : goal.decreases-loop-byte
decreases-loop-byte l = length l.rest
