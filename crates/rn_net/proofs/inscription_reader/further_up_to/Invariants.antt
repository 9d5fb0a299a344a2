use Rattle.rn_net.proofs.Names.{◌≤◌, ◌-◌, length, drop, Count, inscribing, AreFurtherUpTo, Stage}
use Rattle.rn_net.proofs.InscriptionReading.{further_on}
use Rattle.rn_net.proofs.inscription_reader.further_up_to.Given as goal

abbrev pub invariant-loop-next : goal.invariant-loop-next
invariant-loop-next l = record {
  moved : (l.fn.at ≤ l.now) × (l.now ≤ length l.tokens);
  reads : (c : Count) → (d : Count) × Stage AreFurtherUpTo (drop l.fn.at l.tokens)
      (inscribing 0 c) (further_on l.all.items) (drop l.now l.tokens) (inscribing 0 d);
}

abbrev pub decreases-loop-next : goal.decreases-loop-next
decreases-loop-next l = length l.tokens - l.now
