-- By whether a token before it equals it.
use Rattle.std.proofs.Common.{rules, ◌≡◌, Some, slice_get, ◌-◌, ◌<◌, sym, arith}
use Rattle.rn_search.proofs.FirstTokens.{again, first, fresh}
use Rattle.rn_search.proofs.tokens.first_token.Goals as goal
use Rattle.rn_search.proofs.tokens.first_token.Goals.{else-index-gt0-via-then-index-gt0+else-is_at}
use Rattle.rn_search.proofs.tokens.first_token.Goals.{else-index-gt0-via-else-index-gt0}

pub returns-then-is_at : goal.returns-then-is_at
returns-then-is_at c =
    let at : slice_get c.args.bag.now c.args.index ≡ Some c.in-Some.token.now = search rules in
    let before : slice_get c.args.bag.now (c.args.index - 1) ≡ Some c.in-Some.token.now =
    search rules in
    let some : 0 < c.args.index = omega (arith, c.if-index-gt0.true) in
    sym (again c.args.bag.now c.args.index c.in-Some.token.now some at before)

pub returns : goal.returns
returns c =
    let at : slice_get c.args.bag.now c.args.index ≡ Some c.in-Some.token.now = search rules in
    elim c.else-index-gt0.branch [
      | else-index-gt0-via-then-index-gt0+else-is_at w ↦ (
          let some : 0 < c.args.index = omega (arith, w.if-index-gt0.true) in
          let other : ¬ (slice_get c.args.bag.now (c.args.index - 1) ≡ Some c.in-Some.token.now) = search rules in
          sym (fresh c.args.bag.now c.args.index c.in-Some.token.now c.len.ensures.sorted some at other))
      | else-index-gt0-via-else-index-gt0 w ↦ (
          let none : c.args.index ≡ 0 = omega (arith, w.if-index-gt0.false) in
          sym (first c.args.bag.now c.args.index c.in-Some.token.now none at))
    ]
