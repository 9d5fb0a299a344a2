-- What was put, and what is left to put, is all.
use Rattle.std.proofs.Common.{◌≡◌, ◌++◌, drop}
use Rattle.std.specs.Prelude.{flat_map}
use Rattle.rn_model.specs.Systems.{vars_in}
use Rattle.rn_model.specs.Good.{action_expr}
use Rattle.rn_occurring.proofs.occurring.put_actions.Given as goal

abbrev pub invariant-loop-action : goal.invariant-loop-action
invariant-loop-action l =
    l.vars.items ++ flat_map (λ action. vars_in (action_expr action)) (drop l.action-index l.actions)
    ≡ l.initial.vars.items ++ flat_map (λ action. vars_in (action_expr action)) l.actions
