-- By where the tokens are cut that are below it.
use Rattle.std.proofs.Common.{rules, ◌≡◌, Some, slice_get}
use Rattle.rn_search.proofs.FirstTokens.{cut_first, cut_absent}
use Rattle.rn_search.proofs.tokens.index_of.Goals as goal

pub returns-then-is_at-clause-first : goal.returns-then-is_at-clause-first
returns-then-is_at-clause-first c =
    let at : slice_get c.args.bag.now c.first_from-from.result ≡ Some c.args.token.now =
    search rules in
    cut_first c.args.bag.now c.first_from-from.result c.args.token.now
    c.first_from-from.ensures.below at

pub returns-else-is_at-clause-absent : goal.returns-else-is_at-clause-absent
returns-else-is_at-clause-absent c =
    let other : ¬ (slice_get c.args.bag.now c.first_from-from.result ≡ Some c.args.token.now) =
    search rules in
    cut_absent c.args.bag.now c.first_from-from.result c.args.token.now c.len-count.ensures.sorted
    c.first_from-from.ensures.below c.first_from-from.ensures.rest other
