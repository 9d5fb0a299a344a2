use Rattle.std.proofs.Common.{take}
use Rattle.rn_incr.specs.link.Kept.{AreNoted, GrowsBy, numbers_of}
use Rattle.rn_incr.proofs.busy.note_all.Given as goal

abbrev pub invariant-loop-one : goal.invariant-loop-one
invariant-loop-one l =
    GrowsBy (numbers_of l.fresh) l.initial.busy l.busy × AreNoted l.busy (take l.one-index l.fresh)
