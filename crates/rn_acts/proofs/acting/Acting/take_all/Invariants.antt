use Rattle.std.proofs.Common.{◌≡◌, drop}
use Rattle.rn_model.specs.Firing.{after_actions}
use Rattle.rn_acts.specs.link.Acting.{AreFitActions, acts_of}
use Rattle.rn_acts.proofs.acting.Acting.take_all.Given as goal

abbrev pub invariant-loop-action : goal.invariant-loop-action
invariant-loop-action l =
    (after_actions (drop l.action-index l.actions) (acts_of l.self)
    ≡ after_actions l.actions (acts_of l.initial.self))
    × AreFitActions (drop l.action-index l.actions) (acts_of l.self)
