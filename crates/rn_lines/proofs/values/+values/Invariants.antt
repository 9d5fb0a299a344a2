use Rattle.std.proofs.Common.{◌≡◌, ◌+◌, ◌*◌, ◌-◌, map}
use Rattle.rn_lines.specs.Reading.{with_front, tail_at, value_at}
use Rattle.rn_lines.specs.link.Said.{said}
use Rattle.rn_lines.proofs.values.+values.Given as goal

abbrev pub decreases-value_at : goal.decreases-value_at
decreases-value_at l = 3 * l.depth + 1

abbrev pub decreases-row_at : goal.decreases-row_at
decreases-row_at l = 3 * l.depth

abbrev pub decreases-others_at : goal.decreases-others_at
decreases-others_at l = 3 * l.depth + 2

-- what is read so far and what the rest gives are all
abbrev pub invariant-others_at-loop : goal.invariant-others_at-loop
invariant-others_at-loop l =
    with_front l.values.items (map said l.mentions.items) (tail_at (value_at l.depth) l.close (l.most - l.counter) l.rest)
    ≡ with_front l.initial.values.items (map said l.initial.mentions.items) (tail_at (value_at l.depth) l.close l.most l.bytes)
