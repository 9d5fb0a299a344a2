use Rattle.std.proofs.Common.{◌≡◌, subst, rules}
use Rattle.std.specs.Prelude.{Some, slice_get}
use Rattle.rn_firsts.specs.Known.{IsLookedAt}
use Rattle.rn_firsts.proofs.InOrder.{first_with_least, one_fewer}
use Rattle.rn_firsts.proofs.Numbers.{got_first, least_of_them, popped}
use Rattle.rn_firsts.proofs.looking.first_again.Goals as goal

pub returns-in-Some-found-clause-first : goal.returns-in-Some-found-clause-first
returns-in-Some-found-clause-first c =
    let keys = c.loop-first.again.keys in
    let number = c.in-Some.first.now in
    let is : slice_get keys 0 ≡ Some number = search rules in
    first_with_least c.args.marked.system.now c.args.marked.table.now.marking c.args.marked.depth c.args.until number
    keys c.in-Some-found.first c.loop-first.invariant (got_first keys number is)
    (λ n has. least_of_them keys number n (search rules) has)
    (rw c.in-Some-found.is at c.in_ok-found.ensures)

pub loop-first-preserved : goal.loop-first-preserved
loop-first-preserved c =
    let system = c.args.marked.system.now in
    let m = c.args.marked.table.now.marking in
    let keys = c.loop-first.again.keys in
    let rest = c.pop_first-gone.new.self.keys in
    let number = c.in-Some.first.now in
    let is : slice_get keys 0 ≡ Some number = search rules in
    one_fewer system m c.args.marked.depth c.args.until number rest
    (subst (IsLookedAt system m c.args.marked.depth c.args.until)
    (popped c.pop_first-gone.result keys rest number c.pop_first-gone.ensures.variant
    c.pop_first-gone.ensures.removal is)
    c.loop-first.invariant)
    (rw c.in_default-found.is at c.in_ok-found.ensures)
