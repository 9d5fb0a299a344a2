use Rattle.std.proofs.Common.{◌≡◌, take, get_or, sym, subst, ⊎_elim, arith}
use Rattle.std.specs.Prelude.{Contains}
use Rattle.std.proofs.lemmas.List.{take_all}
use Rattle.rn_model.proofs.EnablingLemmas.{not_in_nil}
use Rattle.rn_holders.proofs.ReachingLemmas.{taken_more}
use Rattle.rn_firsts.proofs.known_idle.remove_all.Goals as goal

pub loop-number-init : goal.loop-number-init
loop-number-init c n has = (has, not_in_nil n)

pub loop-number-preserved : goal.loop-number-preserved
loop-number-preserved c n has =
    let xs = c.args.numbers.now in
    let i = c.loop-number.number-index in
    let its = c.remove.ensures n has in
    let before = c.loop-number.invariant n its.0 in (
      before.0,
      λ there. ⊎_elim
          (λ (early : Contains (take i xs) n). before.1 early)
          (λ (same : n ≡ get_or xs i 0). its.1 same)
          (taken_more xs i c.loop-number-test.true n there),
    )

pub returns : goal.returns
returns c n has =
    let its = c.loop-number.invariant n has in (
      its.0,
      λ there. its.1 (subst (λ xs. Contains xs n)
          (sym (take_all c.loop-number.number-index c.args.numbers.now
          (omega (arith, c.loop-number-test.false)))) there),
    )
