use Rattle.rn_model.proofs.RepeatedValues as values
use Rattle.rn_model.proofs.repeats.repeats_hold_values.Goals as goal

pub returns-clause-values : goal.returns-clause-values
returns-clause-values c = values.repeats_hold_values

pub returns-clause-parted : goal.returns-clause-parted
returns-clause-parted c = values.repeats_are_parted
