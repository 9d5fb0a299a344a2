use Rattle.std.proofs.Common.{◌+◌, ap, ◌∙◌}
use Rattle.rn_bag.specs.link.Tags.{chunks_of}
use Rattle.rn_bag.proofs.TagLemmas.{inserted_is, inserted_tag, seen_more, on_err_too}
use Rattle.rn_bag.proofs.chunks.Chunks.insert_after.Goals as goal

pub returns-in_err-insert-clause-err : goal.returns-in_err-insert-clause-err
returns-in_err-insert-clause-err c =
    on_err_too _ _
    (ap (chunks_of c.keep.new.self) c.in_err-insert.ensures.items
    ∙ seen_more c.self.inside.pool c.keep.new.self c.args.tokens.items c.self.inside.tags.items c.args.self.now (c.self.view_is ∙ c.settle.ensures) c.self.invariant c.in_ok-tag.ensures.ok)

pub invariant_of-self-2 : goal.invariant_of-self-2
invariant_of-self-2 c =
    inserted_is c.self.inside.pool c.keep.new.self c.args.tokens.items c.self.inside.tags.items c.insert.new.self.items (c.args.index + 1) c.in_ok-tag.tag c.self.invariant c.in_ok-tag.ensures.tag c.in_ok-tag.ensures.ok c.in_ok-insert.ensures.items

pub returns-clause-ok : goal.returns-clause-ok
returns-clause-ok c =
    inserted_tag c.self.inside.pool c.keep.new.self c.args.tokens.items c.self.inside.tags.items c.insert.new.self.items c.args.self.now (c.args.index + 1) c.in_ok-tag.tag (c.self.view_is ∙ c.settle.ensures) c.self.invariant c.in_ok-tag.ensures.tag c.in_ok-tag.ensures.ok c.in_ok-insert.ensures.items
