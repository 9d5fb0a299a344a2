use Rattle.rn_net.proofs.Names.{◌≤◌, ◌-◌, length, drop, between, Stage, AreInscriptionsUpTo}
use Rattle.rn_net.proofs.NetPhrases.{inscriptions, many_on}
use Rattle.rn_net.proofs.inscription_reader.inscriptions_up_to.Given as goal

abbrev pub invariant-inscriptions : goal.invariant-inscriptions
invariant-inscriptions l = record {
  moved : (l.fn.at ≤ l.now) × (l.now ≤ length l.tokens);
  reads : Stage (AreInscriptionsUpTo l.notation) (drop l.fn.at l.tokens) between (many_on (inscriptions l.notation) l.all.items) (drop l.now l.tokens) between;
}

abbrev pub decreases-inscriptions : goal.decreases-inscriptions
decreases-inscriptions l = length l.tokens - l.now
