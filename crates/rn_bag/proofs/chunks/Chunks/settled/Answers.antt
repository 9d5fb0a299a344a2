use Rattle.std.proofs.Common.{refl, arith}
use Rattle.rn_bag.proofs.TagLemmas.{settled_step}
use Rattle.rn_bag.proofs.chunks.Chunks.settled.Goals as goal

pub loop-i-preserved : goal.loop-i-preserved
loop-i-preserved c =
    let next = settled_step c.self.inside.pool c.loop-i.lists.items c.push.new.self.items c.self.inside.tags.items c.loop-i.tags.items c.push-in-loop-i.new.self.items c.loop-i.i c.index-tag.result.now _ c.get.result.now c.in_ok-share.field-0
    c.self.invariant (omega arith) c.index-tag.ensures c.get.ensures c.loop-i.invariant.tags c.loop-i.invariant.chunks c.loop-i.invariant.size refl c.in_ok-share.ensures c.in_ok-push.ensures.items c.in_ok-push-2.ensures.items in
    record { tags = next.0; chunks = next.1; size = next.2 }
