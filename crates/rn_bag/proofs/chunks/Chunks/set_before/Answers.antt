use Rattle.std.proofs.Common.{refl}
use Rattle.rn_bag.proofs.TagLemmas.{changed_before}
use Rattle.rn_bag.proofs.chunks.Chunks.set_before.Goals as goal

pub returns-clause-chunk : goal.returns-clause-chunk
returns-clause-chunk c = λ x seen.
    changed_before c.self.inside.pool c.self.inside.tags.items c.args.self.now c.args.index c.args.before c.index_mut.result.now _ x c.self.view_is c.requires c.index_mut.ensures.value seen refl
