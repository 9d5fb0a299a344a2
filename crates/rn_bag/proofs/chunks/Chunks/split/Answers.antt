use Rattle.std.proofs.Common.{◌+◌, List, sym, ap, subst, ◌∙◌, set}
use Rattle.rn_bag.specs.declared.tag.Tag.{Tag}
use Rattle.rn_bag.specs.link.Tags.{chunks_of, AreTags}
use Rattle.rn_bag.proofs.TagLemmas.{kept_more, seen_more, split_is, split_tags, on_err_too}
use Rattle.rn_bag.proofs.chunks.Chunks.split.Goals as goal

pub returns-in_err-second-clause-err : goal.returns-in_err-second-clause-err
returns-in_err-second-clause-err c =
    on_err_too _ _ (ap (λ ls. chunks_of ls c.self.inside.tags.items) c.in_err-second.ensures.err ∙ seen_more c.self.inside.pool c.keep.new.self c.args.lower.items c.self.inside.tags.items c.args.self.now (c.self.view_is ∙ c.settle.ensures) c.self.invariant c.in_ok-first.ensures.ok)

pub invariant_of-self-in_err-insert : goal.invariant_of-self-in_err-insert
invariant_of-self-in_err-insert c =
    subst (AreTags c.keep-2.new.self) (sym c.in_err-insert.ensures.items)
    (kept_more c.keep.new.self c.keep-2.new.self c.args.upper.items c.self.inside.tags.items (kept_more c.self.inside.pool c.keep.new.self c.args.lower.items c.self.inside.tags.items c.self.invariant c.in_ok-first.ensures.ok) c.in_ok-second.ensures.ok)

pub returns-in_err-insert-clause-err : goal.returns-in_err-insert-clause-err
returns-in_err-insert-clause-err c =
    on_err_too _ _
    (ap (chunks_of c.keep-2.new.self) c.in_err-insert.ensures.items
    ∙ seen_more c.keep.new.self c.keep-2.new.self c.args.upper.items c.self.inside.tags.items c.args.self.now (seen_more c.self.inside.pool c.keep.new.self c.args.lower.items c.self.inside.tags.items c.args.self.now (c.self.view_is ∙ c.settle.ensures) c.self.invariant c.in_ok-first.ensures.ok) (kept_more c.self.inside.pool c.keep.new.self c.args.lower.items c.self.inside.tags.items c.self.invariant c.in_ok-first.ensures.ok) c.in_ok-second.ensures.ok)

pub invariant_of-self-2 : goal.invariant_of-self-2
invariant_of-self-2 c =
    split_is c.self.inside.pool c.keep.new.self c.keep-2.new.self c.args.lower.items c.args.upper.items c.self.inside.tags.items c.insert.new.self.items c.args.index (c.args.index + 1) c.in_ok-first.first c.in_ok-second.second
    c.self.invariant c.in_ok-first.ensures.tag c.in_ok-first.ensures.ok c.in_ok-second.ensures.tag c.in_ok-second.ensures.ok c.in_ok-insert.ensures.items

pub returns-clause-ok : goal.returns-clause-ok
returns-clause-ok c =
    split_tags c.self.inside.pool c.keep.new.self c.keep-2.new.self c.args.lower.items c.args.upper.items c.self.inside.tags.items _ c.args.self.now c.args.index (c.args.index + 1) c.in_ok-first.first c.in_ok-second.second
    (c.self.view_is ∙ c.settle.ensures) c.self.invariant c.in_ok-first.ensures.tag c.in_ok-first.ensures.ok c.in_ok-second.ensures.tag c.in_ok-second.ensures.ok
    (ap (λ (ms : List Tag). set ms c.args.index c.in_ok-first.first) c.in_ok-insert.ensures.items)
