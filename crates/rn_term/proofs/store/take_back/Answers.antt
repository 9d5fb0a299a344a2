use Rattle.std.proofs.Common.{◌<◌, rules, length}
use Rattle.rn_term.proofs.TakingBack.{taken_back}
use Rattle.rn_term.proofs.store.take_back.Goals as goal

pub loop-notes-preserved-in-Some : goal.loop-notes-preserved-in-Some
loop-notes-preserved-in-Some c =
    let more : c.args.left < length c.loop-notes.notes.items = search rules in
    taken_back _ c.loop-notes.notes.items c.pop.new.self.items c.loop-notes.links.items _ _
    c.in-Some.var c.in-Some.to c.requires.noted c.loop-notes.invariant more
    c.in-Some.ensures.items
