use Rattle.std.proofs.Common.{refl}
use Rattle.rn_answering.proofs.net_text.net_of.Goals as goal

pub returns-clause-accepted : goal.returns-clause-accepted
returns-clause-accepted c = (
  record {
    plain = c.in_ok-plain.plain;
    spelled = c.in_ok-plain.ensures.spells;
    checked = c.in_ok-system.ensures.checked;
  },
  refl,
)
