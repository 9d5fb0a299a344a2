use Rattle.std.proofs.Common.{◌≡◌, ◌-◌, map}
use Rattle.rn_lines.specs.NodeReading.{all_given_at}
use Rattle.rn_lines.specs.link.NodeSeen.{given}
use Rattle.rn_lines.proofs.NodeReadings.{with_given}
use Rattle.rn_lines.proofs.nodes.all_given_at.Given as goal

-- what is read so far and what the rest gives are all
abbrev pub invariant-loop : goal.invariant-loop
invariant-loop l = with_given (map given l.all.items) (all_given_at (l.most - l.counter) l.rest) ≡ all_given_at l.most l.bytes
