use Rattle.std.proofs.Common.{refl, ◌∙◌}
use Rattle.rn_bag.proofs.TagLemmas.{set_is, replaced_tag}
use Rattle.rn_bag.proofs.chunks.Chunks.replace.Goals as goal

pub invariant_of-self-2 : goal.invariant_of-self-2
invariant_of-self-2 c =
    set_is c.self.inside.pool c.keep.new.self c.args.tokens.items c.self.inside.tags.items c.args.index c.in_ok-tag.tag c.self.invariant c.in_ok-tag.ensures.tag c.in_ok-tag.ensures.ok

pub returns-clause-ok : goal.returns-clause-ok
returns-clause-ok c =
    replaced_tag c.self.inside.pool c.keep.new.self c.args.tokens.items c.self.inside.tags.items _ c.args.self.now c.args.index c.in_ok-tag.tag (c.self.view_is ∙ c.settle.ensures) c.self.invariant c.in_ok-tag.ensures.tag c.in_ok-tag.ensures.ok refl
