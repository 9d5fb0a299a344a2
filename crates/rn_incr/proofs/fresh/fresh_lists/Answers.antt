use Rattle.std.proofs.Common.{refl, sym, subst}
use Rattle.rn_incr.specs.Lists.{IsListOf}
use Rattle.rn_incr.proofs.PutLemmas.{one_more}
use Rattle.rn_incr.proofs.fresh.fresh_lists.Goals as goal

pub loop-number-preserved : goal.loop-number-preserved
loop-number-preserved c =
    let P = IsListOf c.args.system.now c.args.table.now.marking c.args.depth in
    one_more P c.loop-number.fresh.items c.push.new.self.items _ c.args.numbers.now
    c.loop-number.number-index c.loop-number-test.true refl c.loop-number.invariant.0
    c.loop-number.invariant.1
    (subst (P _) (sym c.from_vec.ensures)
    (record { just = c.in_ok-list.ensures.just; ascending = c.in_ok-list.ensures.ascending }))
    c.in_ok-push.ensures.items
