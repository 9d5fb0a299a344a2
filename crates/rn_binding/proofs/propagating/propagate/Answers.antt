-- All events are looked at, and then those that follow.
use Rattle.std.proofs.lemmas.Result.{on_ok_weaker}
use Rattle.rn_binding.proofs.Later.{not_yet, later_then}
use Rattle.rn_binding.proofs.propagating.propagate.Goals as goal

pub returns-then-is_empty : goal.returns-then-is_empty
returns-then-is_empty c =
    not_yet c.args.subject.system.now c.args.subject.binding.now c.args.growing.now c.requires.followed

pub returns : goal.returns
returns c =
    on_ok_weaker c.follow_all.result
    (λ later. later_then c.args.subject.system.now c.args.subject.binding.now c.args.growing.now
    c.look_at_all.new.growing c.follow_all.new.growing c.in_ok-look_at_all.ensures later)
    c.follow_all.ensures
