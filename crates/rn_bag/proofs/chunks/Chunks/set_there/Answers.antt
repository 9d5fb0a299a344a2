use Rattle.std.proofs.Common.{refl}
use Rattle.rn_bag.proofs.TagLemmas.{changed_there, changed_is}
use Rattle.rn_bag.proofs.chunks.Chunks.set_there.Goals as goal

pub invariant_of-self : goal.invariant_of-self
invariant_of-self c =
    changed_is c.self.inside.pool c.self.inside.tags.items c.args.self.now c.args.index c.args.there c.args.count c.index_mut-tag.result.now _ c.self.view_is c.self.invariant c.requires.inside c.index_mut-tag.ensures.value c.requires.counted refl

pub returns : goal.returns
returns c = λ x seen.
    changed_there c.self.inside.pool c.self.inside.tags.items c.args.self.now c.args.index c.args.there c.args.count c.index_mut-tag.result.now _ x c.self.view_is c.requires.inside c.index_mut-tag.ensures.value seen refl
