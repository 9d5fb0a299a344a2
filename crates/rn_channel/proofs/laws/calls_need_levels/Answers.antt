use Rattle.std.proofs.Common.{refl, ◌-◌, length}
use Rattle.rn_channel.proofs.CallsBelow.{levels_suffice, more_levels_suffice}
use Rattle.rn_channel.proofs.laws.calls_need_levels.Goals as goal

pub returns-clause-needed : goal.returns-clause-needed
returns-clause-needed c = λ system b depth node good shape there.
    levels_suffice system b depth good shape (depth - length node.path) node there refl

pub returns-clause-more : goal.returns-clause-more
returns-clause-more c = more_levels_suffice
