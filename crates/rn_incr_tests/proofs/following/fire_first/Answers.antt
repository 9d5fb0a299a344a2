-- The first binding of the lists is the first that is enabled.
use Rattle.std.proofs.Common.{ap, ◌∙◌, length}
use Rattle.rn_fire.specs.States.{State, end_marking, logged}
use Rattle.rn_incr.proofs.RunningLemmas.{is_sound, least_now, was_least}
use Rattle.rn_incr_tests.proofs.following.fire_first.Goals as goal

pub commit_at-requires-clause-sound : goal.commit_at-requires-clause-sound
commit_at-requires-clause-sound c =
    let s = c.args.state.now in
    let first = c.in-Some.first.now in
    let least =
    least_now s c.args.lists.now c.requires.followed first
    (c.in-Some.ensures.least s.setup.system c.requires.followed.lists) in
    is_sound s.setup.system (end_marking s) first s.setup.options.depth least.enabled

pub commit_at-requires-clause-seen : goal.commit_at-requires-clause-seen
commit_at-requires-clause-seen c =
    let s = c.args.state.now in
    let first = c.in-Some.first.now in
    let count =
    c.length-seen.ensures.length ∙ ap (λ (x : State). length (logged x)) c.base.ensures.state in
    was_least s c.length-seen.result c.requires.going count first
    (least_now s c.args.lists.now c.requires.followed first
    (c.in-Some.ensures.least s.setup.system c.requires.followed.lists))
