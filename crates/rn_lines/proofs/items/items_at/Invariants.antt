use Rattle.std.proofs.Common.{◌≡◌, ◌-◌, map}
use Rattle.rn_lines.specs.LineReading.{items_at}
use Rattle.rn_lines.specs.link.LinesSeen.{item}
use Rattle.rn_lines.proofs.ItemReadings.{with_items}
use Rattle.rn_lines.proofs.items.items_at.Given as goal

-- what is read so far and what the rest gives are all
abbrev pub invariant-loop : goal.invariant-loop
invariant-loop l = with_items (map item l.items.items) (items_at (l.most - l.counter) l.rest) ≡ items_at l.most l.bytes
