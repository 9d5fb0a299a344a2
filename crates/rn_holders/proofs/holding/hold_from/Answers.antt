use Rattle.std.proofs.Common.{◌≡◌, get_or, take, sym, subst, arith, ⊎_elim}
use Rattle.std.specs.Prelude.{Contains}
use Rattle.rn_model.proofs.EnablingLemmas.{not_in_nil}
use Rattle.rn_holders.specs.Holders.{held_by}
use Rattle.rn_holders.proofs.HoldingLemmas.{keep_both, whole_list}
use Rattle.rn_holders.proofs.ReachingLemmas.{taken_more}
use Rattle.rn_holders.proofs.holding.hold_from.Goals as goal

pub loop-number-init : goal.loop-number-init
loop-number-init c = (λ holder n has. has, λ n has. absurd (not_in_nil n has))

pub loop-number-preserved : goal.loop-number-preserved
loop-number-preserved c =
    let xs = c.as_slice-number-items.result.now in
    let i = c.loop-number.number-index in
    let after = c.hold.new.holders.items in (
      keep_both c.args.holders.now.items c.loop-number.holders.items after
          c.loop-number.invariant.0 c.hold.ensures.keep,
      λ n has. ⊎_elim
          (λ (earlier : Contains (take i xs) n).
          c.hold.ensures.keep c.args.holder n (c.loop-number.invariant.1 n earlier))
          (λ (same : n ≡ get_or xs i 0).
          subst (λ k. Contains (held_by after k) c.args.holder) (sym same) c.in_ok-hold.ensures.has)
          (taken_more xs i c.loop-number-test.true n has),
    )

pub returns-in_err-hold-clause-keep : goal.returns-in_err-hold-clause-keep
returns-in_err-hold-clause-keep c =
    keep_both c.args.holders.now.items c.loop-number.holders.items c.hold.new.holders.items
    c.loop-number.invariant.0 c.hold.ensures.keep

pub returns-clause-keep : goal.returns-clause-keep
returns-clause-keep c = c.loop-number.invariant.0

pub returns-clause-has : goal.returns-clause-has
returns-clause-has c n refers =
    whole_list (λ k. Contains (held_by c.loop-number.holders.items k) c.args.holder)
    c.as_slice-number-items.result.now c.loop-number.number-index (omega (arith, c.loop-number-test.false))
    c.loop-number.invariant.1 n
    (subst (λ xs. Contains xs n) (sym c.as_slice-number-items.ensures.value) ((c.in_ok-numbers.ensures n).1 refers))
