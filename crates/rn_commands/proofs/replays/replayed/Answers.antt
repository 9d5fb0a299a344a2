-- The system is shared with the state.
use Rattle.std.proofs.Common.{subst}
use Rattle.rn_replay.specs.Replays.{Replays}
use Rattle.rn_commands.proofs.replays.replayed.Goals as goal

pub returns : goal.returns
returns c =
    subst (λ system. Replays system c.args.options c.args.told.now c.replay.result) c.in_ok-system.ensures.ok
    c.replay.ensures
