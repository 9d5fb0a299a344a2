use Rattle.std.proofs.Common.{◌-◌, ◌++◌, ◌∷◌, [], take, drop, ap, sym, ◌∙◌, arith}
use Rattle.rn_bag.proofs.CursorLemmas.{copied_more}
use Rattle.rn_bag.proofs.bag.Bag.copies.Goals as goal

pub loop-index-preserved : goal.loop-index-preserved
loop-index-preserved c =
    c.in_ok-push.ensures.items
    ∙ ap (λ r. r ++ c.in_ok-copy.field-0 ∷ []) c.loop-index.invariant
    ∙ ap (λ v. take (c.loop-index.index - c.args.start) (drop c.args.start c.args.self.now) ++ v ∷ []) c.in_ok-copy.ensures
    ∙ sym (copied_more c.args.self.now c.args.start c.loop-index.index c.token.result.now (omega arith) c.token.ensures)
