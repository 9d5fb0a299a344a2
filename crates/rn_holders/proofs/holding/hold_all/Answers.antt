use Rattle.std.proofs.Common.{◌≡◌, get_or, take, sym, subst, arith, ⊎_elim}
use Rattle.std.specs.Prelude.{Contains}
use Rattle.rn_model.proofs.EnablingLemmas.{not_in_nil}
use Rattle.rn_reach.specs.Reach.{RefersTo}
use Rattle.rn_holders.specs.Holders.{held_by}
use Rattle.rn_holders.proofs.HoldingLemmas.{keep_both, whole_list}
use Rattle.rn_holders.proofs.ReachingLemmas.{taken_more}
use Rattle.rn_holders.proofs.holding.hold_all.Goals as goal

pub loop-holder-init : goal.loop-holder-init
loop-holder-init c = (λ holder n has. has, λ holder n there. absurd (not_in_nil holder there))

pub loop-holder-preserved : goal.loop-holder-preserved
loop-holder-preserved c =
    let m = c.args.table.now.marking in
    let xs = c.args.those.now in
    let i = c.loop-holder.holder-index in
    let after = c.hold_from.new.holders.items in (
      keep_both c.args.holders.now.items c.loop-holder.holders.items after
          c.loop-holder.invariant.0 c.hold_from.ensures.keep,
      λ holder n there refers. ⊎_elim
          (λ (earlier : Contains (take i xs) holder).
          c.hold_from.ensures.keep holder n
          (c.loop-holder.invariant.1 holder n earlier refers))
          (λ (same : holder ≡ get_or xs i 0).
          subst (Contains (held_by after n)) (sym same)
          (c.in_ok-hold_from.ensures.has n (subst (λ k. RefersTo m k n) same refers)))
          (taken_more xs i c.loop-holder-test.true holder there),
    )

pub returns-in_err-hold_from-clause-keep : goal.returns-in_err-hold_from-clause-keep
returns-in_err-hold_from-clause-keep c =
    keep_both c.args.holders.now.items c.loop-holder.holders.items c.hold_from.new.holders.items
    c.loop-holder.invariant.0 c.hold_from.ensures.keep

pub returns-clause-keep : goal.returns-clause-keep
returns-clause-keep c = c.loop-holder.invariant.0

pub returns-clause-has : goal.returns-clause-has
returns-clause-has c holder n there refers =
    whole_list
    (λ k. RefersTo c.args.table.now.marking k n →
    Contains (held_by c.loop-holder.holders.items n) k)
    c.args.those.now c.loop-holder.holder-index (omega (arith, c.loop-holder-test.false))
    (λ k earlier refers. c.loop-holder.invariant.1 k n earlier refers) holder there refers
