-- The state that a least run keeps lists what may have changed.
use Rattle.std.proofs.Common.{ℕ, take, drop, subst}
use Rattle.std.specs.Prelude.{◌↔◌, Contains, IfOk}
use Rattle.rn_model.specs.Runs.{end_of}
use Rattle.rn_reach.specs.Changes.{MayChange}
use Rattle.rn_reach.specs.Reach.{DifferAtMostIn}
use Rattle.rn_fire.specs.States.{State, end_marking}
use Rattle.rn_least_state.proofs.state.LeastState.changed_since.Goals as goal

pub returns-clause-just : goal.returns-clause-just
returns-clause-just c =
    subst
    (λ (x : State). IfOk c.changed_since.result (λ changed. (n : ℕ) → Contains changed.items n
    ↔ MayChange (drop c.args.seen x.fired) c.args.next (end_marking x).next n))
    c.self.view_is c.changed_since.ensures.just

pub returns-clause-differ : goal.returns-clause-differ
returns-clause-differ c =
    subst
    (λ (x : State). IfOk c.changed_since.result (λ changed. DifferAtMostIn changed.items
    (end_of x.setup.system (take c.args.seen x.fired)) (end_marking x)))
    c.self.view_is c.changed_since.ensures.differ
