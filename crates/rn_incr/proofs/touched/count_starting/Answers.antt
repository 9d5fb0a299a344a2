use Rattle.std.proofs.Common.{◌≡◌, length, subst, arith}
use Rattle.std.specs.Prelude.{filter}
use Rattle.std.proofs.lemmas.List.{take_all}
use Rattle.rn_incr.proofs.TouchedLemmas.{starts_at, number_is}
use Rattle.rn_incr.proofs.touched.count_starting.Goals as goal

pub returns : goal.returns
returns c =
    let p = starts_at c.args.system.now c.args.table.now.marking in
    number_is c.args.system.now c.args.table.now.marking c.args.numbers.now c.loop-number.count
    c.requires
    (subst (λ xs. c.loop-number.count ≡ length (filter p xs))
    (take_all c.loop-number.number-index c.args.numbers.now
    (omega (arith, c.loop-number-test.false)))
    c.loop-number.invariant.0)
