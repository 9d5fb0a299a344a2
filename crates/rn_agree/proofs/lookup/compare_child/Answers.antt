-- A shorter path compares at once, and another one by its front and then by the rest.
use Rattle.std.proofs.Common.{◌∙◌, ◌++◌, ◌∷◌, [], sym, ap}
use Rattle.std.specs.Cmp.Lexicographic.{slice_cmp}
use Rattle.std.specs.Ordering.{nat_cmp}
use Rattle.rn_agree.proofs.PathLemmas.{shorter, longer_parts}
use Rattle.rn_agree.proofs.lookup.compare_child.Goals as goal

pub returns-then-path-parent : goal.returns-then-path-parent
returns-then-path-parent c =
    c.cmp.ensures
    ∙ sym (shorter c.as_slice-path.result.now c.args.parent.now _ c.if-path-parent.true)
    ∙ ap (λ p. slice_cmp nat_cmp p (c.args.parent.now ++ c.args.i ∷ [])) c.as_slice-path.ensures

pub returns : goal.returns
returns c =
    c.then.ensures
    ∙ longer_parts c.as_slice-path.result.now c.args.parent.now _ _ _ _ _ c.if-path-parent.false
    c.split_at.ensures.front c.split_at.ensures.back c.cmp-2.ensures
    (c.cmp-3.ensures ∙ ap (slice_cmp nat_cmp c.split_at.result.1.now) c.as_slice.ensures)
    ∙ ap (λ p. slice_cmp nat_cmp p (c.args.parent.now ++ c.args.i ∷ [])) c.as_slice-path.ensures
