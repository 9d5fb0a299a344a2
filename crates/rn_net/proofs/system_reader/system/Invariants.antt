use Rattle.rn_net.proofs.Names.{◌≡◌, ◌≤◌, ◌-◌, length, drop, Top, IsBare}
use Rattle.rn_net.proofs.system_reader.system.Given as goal

abbrev pub invariant-items : goal.invariant-items
invariant-items l = record {
  moved : l.now ≤ length l.tokens;
  same : l.plain.notation ≡ l.notation;
  reads : Top l.tokens (drop l.now l.tokens) l.plain;
  bare : IsBare l.tokens (drop l.now l.tokens);
}

abbrev pub decreases-items : goal.decreases-items
decreases-items l = length l.tokens - l.now
