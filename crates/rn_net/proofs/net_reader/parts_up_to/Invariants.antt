use Rattle.rn_net.proofs.Names.{◌≤◌, ◌-◌, length, drop, between, Stage, ArePartsUpTo}
use Rattle.rn_net.proofs.NetPhrases.{parts, many_on}
use Rattle.rn_net.proofs.net_reader.parts_up_to.Given as goal

abbrev pub invariant-parts : goal.invariant-parts
invariant-parts l = record {
  moved : (l.fn.at ≤ l.now) × (l.now ≤ length l.tokens);
  reads : Stage (ArePartsUpTo l.notation l.fn.name) (drop l.fn.at l.tokens) between (many_on (parts l.notation) l.net) (drop l.now l.tokens) between;
}

abbrev pub decreases-parts : goal.decreases-parts
decreases-parts l = length l.tokens - l.now
