-- A commit of what is enabled, in a log that hasn't ended.
use Rattle.std.proofs.Common.{◌∙◌}
use Rattle.rn_replay.proofs.Refusals.{was_enabled}
use Rattle.rn_replay.proofs.firing.fire_now.Goals as goal
use Rattle.rn_fire.proofs.EntryLemmas.{going_count}

pub commit-requires-clause-seen : goal.commit-requires-clause-seen
commit-requires-clause-seen c =
    let s = c.args.state.now in
    was_enabled s c.args.candidate.now c.length-seen.result
    (c.length-seen.ensures.length ∙ going_count s c.requires.going) c.requires.enabled

pub returns-in-Fired : goal.returns-in-Fired
returns-in-Fired c = c.in-Fired.ensures.2.1

pub returns-in-Faulted : goal.returns-in-Faulted
returns-in-Faulted c = c.in-Faulted.ensures.2
