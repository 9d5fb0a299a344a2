use Rattle.std.proofs.Common.{suc}
use Rattle.rn_bag.proofs.TagLemmas.{gone_chunks}
use Rattle.rn_bag.proofs.chunks.Chunks.remove.Goals as goal

pub returns-else-len-eq0 : goal.returns-else-len-eq0
returns-else-len-eq0 c =
    gone_chunks c.self.inside.pool c.self.inside.tags.items c.remove-gone.new.self.items c.args.self.now c.args.index (suc c.args.index) c.self.view_is c.remove-gone.ensures.items
