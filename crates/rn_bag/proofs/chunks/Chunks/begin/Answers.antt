use Rattle.rn_bag.proofs.TagLemmas.{begun}
use Rattle.rn_bag.proofs.chunks.Chunks.begin.Goals as goal

pub returns-clause-ok : goal.returns-clause-ok
returns-clause-ok c =
    begun c.self.inside.pool c.keep.new.self c.args.tokens.items c.self.inside.tags.items c.push.new.self.items c.args.self.now c.in_ok-tag.tag c.self.view_is c.self.invariant c.in_ok-tag.ensures.tag c.in_ok-tag.ensures.ok c.requires.none c.in_ok-push.ensures.items
