-- Step by step.
use Rattle.rn_binding.proofs.Later.{not_yet, later_then}
use Rattle.rn_binding.proofs.propagating.look_at_all.Goals as goal

pub loop-k-init : goal.loop-k-init
loop-k-init c =
    not_yet c.args.graph.subject.system.now c.args.graph.subject.binding.now c.args.growing.now c.requires.followed

pub loop-k-preserved : goal.loop-k-preserved
loop-k-preserved c =
    later_then c.args.graph.subject.system.now c.args.graph.subject.binding.now c.args.growing.now c.loop-k.growing
    c.look_at_next.new.growing c.loop-k.invariant c.in_ok-look_at_next.ensures
