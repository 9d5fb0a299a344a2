use Rattle.std.proofs.Common.{◌≡◌, ◌<◌, length, subst, sym, arith, rules}
use Rattle.std.specs.Prelude.{Some, None, slice_get, Contains}
use Rattle.rn_reach.specs.Reach.{RefersTo}
use Rattle.rn_holders.proofs.ReachingLemmas.{gone_nowhere, gone_one, gone_all, joins_as}
use Rattle.rn_holders.proofs.backwards.go_back.Goals as goal
use Rattle.rn_items.proofs.Lists.{is_past}

pub loop-at-init : goal.loop-at-init
loop-at-init c = gone_nowhere c.args.table.now.marking c.args.found.now.keys

pub loop-at-preserved : goal.loop-at-preserved
loop-at-preserved c =
    let m = c.args.table.now.marking in
    let keys = c.loop-at.found.keys in
    let number = c.in-Some.number.now in
    let is : slice_get keys c.loop-at.at ≡ Some number = search rules in
    gone_one m c.args.found.now.keys keys c.join_holders.new.found.keys c.loop-at.at number
    c.loop-at.invariant is
    (joins_as (λ n. Contains c.holders_of.result.now n × RefersTo m n number)
    (λ n. RefersTo m n number)
    (λ n has. has.1)
    (λ n refers. (
      subst (λ ns. Contains ns n) (sym c.holders_of.ensures) (c.requires.held n number refers),
      refers,
    ))
    c.in_ok-join_holders.ensures)

pub returns-in_default : goal.returns-in_default
returns-in_default c =
    let none : slice_get c.loop-at.found.keys c.loop-at.at ≡ None = search rules in
    gone_all c.args.table.now.marking c.args.found.now.keys c.loop-at.found.keys c.loop-at.at
    c.loop-at.invariant (is_past c.loop-at.found.keys c.loop-at.at none)

pub returns : goal.returns
returns c =
    let keys = c.loop-at.found.keys in
    let short : length keys < 9223372036854775808 =
    subst (λ n. n < 9223372036854775808) c.len-len.ensures.len c.len-len.ensures.small in
    gone_all c.args.table.now.marking c.args.found.now.keys keys c.loop-at.at c.loop-at.invariant
    (omega (arith, short, c.loop-at-test.false))
