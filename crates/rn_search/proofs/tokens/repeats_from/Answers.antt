-- They equal the token before the first of them.
use Rattle.std.proofs.Common.{◌<◌, arith}
use Rattle.rn_search.proofs.FirstTokens.{repeated}
use Rattle.rn_search.proofs.tokens.repeats_from.Goals as goal

pub returns : goal.returns
returns c k from below =
    let some : 0 < c.args.index = omega (arith, c.if-index-eq0.false) in
    let inside : k < c.next_other.result = omega (arith, from, below, c.saturating_sub.ensures) in
    repeated c.args.bag.now c.args.index c.next_other.result k some c.next_other.ensures.equal from
    inside
