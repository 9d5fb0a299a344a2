-- The inscriptions have no operands.
use Rattle.rn_call_tests.proofs.PlainInscriptions.{plain_fit}
use Rattle.rn_call_tests.proofs.capacities.comes_to.Goals as goal

pub demands_of-requires : goal.demands_of-requires
demands_of-requires c = record {
  fit = plain_fit c.in_ok-system.system c.in_ok-binding.binding c.in_ok-system.ensures.plain
      c.in_ok-binding.ensures;
}

pub fits-requires : goal.fits-requires
fits-requires c = record {
  fit = plain_fit c.in_ok-system.system c.in_ok-binding.binding c.in_ok-system.ensures.plain
      c.in_ok-binding.ensures;
}
