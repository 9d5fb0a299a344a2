use Rattle.std.proofs.Common.{rules}
use Rattle.std.specs.Ordering.{is_lt}
use Rattle.std.proofs.lemmas.List.Sorted.{ranks_by, answers_always}
use Rattle.rn_model.specs.Order.{binding_cmp}
use Rattle.rn_model.specs.link.OrderLaws.{binding_cmp-total}
use Rattle.rn_finder.proofs.every.sort_bindings.Goals as goal

pub returns-clause-sorted : goal.returns-clause-sorted
returns-clause-sorted c =
    c.in_ok-sort_by.ensures.sorted (λ a b. is_lt (binding_cmp a b))
    (ranks_by binding_cmp-total (λ x. x))
    (answers_always _ _ _ (λ f a r g k. search rules))
