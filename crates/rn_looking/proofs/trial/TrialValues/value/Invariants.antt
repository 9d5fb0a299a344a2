-- The variables so far.
use Rattle.std.proofs.Common.{◌≡◌, drop}
use Rattle.rn_model.specs.Lists.{value_beside}
use Rattle.rn_looking.proofs.trial.TrialValues.value.Given as goal

abbrev pub invariant-loop-pair : goal.invariant-loop-pair
invariant-loop-pair l =
    value_beside (drop l.pair-index l.self.others.now) l.x ≡ value_beside l.self.others.now l.x
