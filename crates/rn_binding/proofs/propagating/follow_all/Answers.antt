-- Step by step.
use Rattle.rn_binding.proofs.Later.{not_yet, later_then}
use Rattle.rn_binding.proofs.propagating.follow_all.Goals as goal

pub loop-event-init : goal.loop-event-init
loop-event-init c =
    not_yet c.args.graph.subject.system.now c.args.graph.subject.binding.now c.args.growing.now c.requires.followed

pub loop-event-preserved : goal.loop-event-preserved
loop-event-preserved c =
    later_then c.args.graph.subject.system.now c.args.graph.subject.binding.now c.args.growing.now c.loop-event.growing
    c.follow.new.growing c.loop-event.invariant c.in_ok-follow.ensures
