use Rattle.std.proofs.Common.{◌<◌, take, get_or, sym, subst, ⊎_elim, arith}
use Rattle.std.specs.Prelude.{◌≡◌, Contains}
use Rattle.std.proofs.lemmas.List.{take_all}
use Rattle.rn_model.proofs.EnablingLemmas.{not_in_nil}
use Rattle.rn_holders.proofs.ReachingLemmas.{taken_more}
use Rattle.rn_firsts.proofs.following.mark_all.Goals as goal

pub loop-number-init : goal.loop-number-init
loop-number-init c = record {
  stay = λ n has. has;
  come = λ n has low. absurd (not_in_nil n has);
  below = λ all. all;
}

pub loop-number-preserved : goal.loop-number-preserved
loop-number-preserved c =
    let xs = c.args.numbers.now in
    let i = c.loop-number.number-index in
    let before = c.loop-number.invariant in
    let marks = c.in_ok-mark.ensures in
    record {
      stay = λ n has. marks.stay n (before.stay n has);
      come = λ n has low. ⊎_elim
          (λ (early : Contains (take i xs) n). marks.stay n (before.come n early low))
          (λ (same : n ≡ get_or xs i 0). subst (Contains c.mark.new.again.keys) (sym same)
          (marks.come (subst (λ k. k < c.args.until) same low)))
          (taken_more xs i c.loop-number-test.true n has);
      below = λ all. marks.below (before.below all);
    }

pub returns-clause-come : goal.returns-clause-come
returns-clause-come c n has low =
    c.loop-number.invariant.come n
    (subst (λ xs. Contains xs n)
    (sym (take_all c.loop-number.number-index c.args.numbers.now
    (omega (arith, c.loop-number-test.false)))) has) low
