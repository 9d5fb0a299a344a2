use Rattle.rn_table.proofs.FiringLemmas.{firing_is_change}
use Rattle.rn_table.proofs.laws.firings_are_changes.Goals as goal

pub returns : goal.returns
returns c = firing_is_change
