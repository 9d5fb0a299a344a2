use Rattle.std.proofs.Common.{◌≡◌, ◌<◌, length, subst, arith, rules}
use Rattle.std.specs.Prelude.{Some, None, slice_get, Contains}
use Rattle.rn_holders.specs.link.Puts.{Joins}
use Rattle.rn_holders.proofs.BackLemmas.{gone_by_none, gone_by_one, gone_by_all}
use Rattle.rn_holders.proofs.backwards.go_back_by.Goals as goal
use Rattle.rn_items.proofs.Lists.{is_past}

pub loop-at-init : goal.loop-at-init
loop-at-init c = gone_by_none c.args.holders.now c.args.found.now.keys

pub loop-at-preserved : goal.loop-at-preserved
loop-at-preserved c =
    let keys = c.loop-at.found.keys in
    let number = c.in-Some.number.now in
    let is : slice_get keys c.loop-at.at ≡ Some number = search rules in
    gone_by_one c.args.holders.now c.args.found.now.keys keys c.join_all.new.found.keys
    c.loop-at.at number c.loop-at.invariant is
    (subst (λ ns. Joins (Contains ns) keys c.join_all.new.found.keys) c.holders_of.ensures
    c.in_ok-join_all.ensures)

pub returns-in_default : goal.returns-in_default
returns-in_default c =
    let none : slice_get c.loop-at.found.keys c.loop-at.at ≡ None = search rules in
    gone_by_all c.args.holders.now c.args.found.now.keys c.loop-at.found.keys c.loop-at.at
    c.loop-at.invariant (is_past c.loop-at.found.keys c.loop-at.at none)

pub returns : goal.returns
returns c =
    let keys = c.loop-at.found.keys in
    let short : length keys < 9223372036854775808 =
    subst (λ n. n < 9223372036854775808) c.len-len.ensures.len c.len-len.ensures.small in
    gone_by_all c.args.holders.now c.args.found.now.keys keys c.loop-at.at c.loop-at.invariant
    (omega (arith, short, c.loop-at-test.false))
