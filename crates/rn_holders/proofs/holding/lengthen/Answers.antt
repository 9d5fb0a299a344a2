use Rattle.std.proofs.Common.{◌∷◌, [], ◌++◌, ap, ◌∙◌}
use Rattle.rn_holders.specs.Holders.{held_by}
use Rattle.rn_holders.proofs.HoldingLemmas.{same_longer}
use Rattle.rn_holders.proofs.holding.lengthen.Goals as goal

pub loop-alloc-preserved : goal.loop-alloc-preserved
loop-alloc-preserved c n =
    let holders = c.loop-alloc.holders.items in
    ap (λ xs. held_by xs n) c.in_ok-push.ensures.items
    ∙ ap (λ list. held_by (holders ++ list ∷ []) n) c.new.ensures
    ∙ same_longer holders n ∙ c.loop-alloc.invariant n

pub returns-in_err-push-clause-same : goal.returns-in_err-push-clause-same
returns-in_err-push-clause-same c n =
    ap (λ xs. held_by xs n) c.in_err-push.ensures.items ∙ c.loop-alloc.invariant n
