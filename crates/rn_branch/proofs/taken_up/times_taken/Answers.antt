-- Decision by decision.
use Rattle.std.proofs.Common.{◌≤◌, ◌+◌, take, sym, subst, arith}
use Rattle.rn_branch.proofs.TakenTokens.{it_takes, taken, taken_once_more, taken_still}
use Rattle.rn_branch.proofs.taken_up.times_taken.Goals as goal
use Rattle.rn_branch.proofs.taken_up.times_taken.Goals.{then-takes_it, else-takes_it}

pub loop-i-preserved : goal.loop-i-preserved
loop-i-preserved c =
    let few = c.loop-i.invariant.0 in
    let system = c.args.system.now in
    let inst = c.args.taking.now.inst.now in
    let place = c.args.taking.now.place in
    let v = c.args.taking.now.token.now in
    let ds = c.args.decisions.now in
    let i = c.loop-i.i in
    elim c.if-takes_it.branch [
      | then-takes_it w ↦
          let is = w.times-is in (
            omega (arith, few, is),
            subst (λ n. n ≤ taken system inst place v (take (i + 1) ds)) (sym is)
                (taken_once_more system inst place v ds i c.index-decisions-i.result
                c.loop-i-test.true c.index-decisions-i.is c.loop-i.times c.loop-i.invariant.1
                (it_takes system c.index-decisions-i.result inst place v
                (c.takes_it.ensures w.if-takes_it.true))),
          )
      | else-takes_it w ↦
          let is = w.times-is in (
            omega (arith, few, is),
            subst (λ n. n ≤ taken system inst place v (take (i + 1) ds)) (sym is)
                (taken_still system inst place v ds i c.index-decisions-i.result
                c.loop-i-test.true c.index-decisions-i.is c.loop-i.times c.loop-i.invariant.1),
          )
    ]
