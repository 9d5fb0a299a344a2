-- One more inscription.
use Rattle.std.proofs.Common.{◌∙◌, arith}
use Rattle.rn_declared.specs.link.Tables.{found_in}
use Rattle.rn_rules.specs.link.Scopes.{scope_in}
use Rattle.rn_rules.proofs.TransitionLemmas.{inscriptions_told_more}
use Rattle.rn_rules.proofs.transitions.see_inscriptions.Goals as goal

pub loop-inscription-preserved : goal.loop-inscription-preserved
loop-inscription-preserved g c = record {
  told =
      inscriptions_told_more (scope_in c.args.known.now)
      (record {
        setter = found_in c.args.setters.now.table;
        past = c.loop-inscription.past;
        sets = c.args.setters.now.count;
        called = c.loop-inscription.called;
      })
      c.args.inscriptions.now c.loop-inscription.inscription-index c.inscription-item.result
      c.sets-past.result c.is_uplink-called.result c.loop-inscription.first.fault
      c.see_inscription.new.first.fault c.loop-inscription-test.true c.inscription-item.is
      c.sets-past.ensures.count c.is_uplink-called.ensures c.in_ok-see_inscription.ensures
      ∙ c.loop-inscription.invariant.told;
  few = omega (arith, c.loop-inscription.invariant.few, c.sets-past.ensures.one);
}
