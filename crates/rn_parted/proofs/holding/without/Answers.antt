use Rattle.std.proofs.Common.{◌≡◌, get_or, take, sym, ◌∙◌, subst, arith, ⊎_elim}
use Rattle.std.specs.Prelude.{Contains}
use Rattle.std.proofs.lemmas.List.{take_all}
use Rattle.rn_model.proofs.EnablingLemmas.{not_in_nil}
use Rattle.rn_holders.proofs.ReachingLemmas.{taken_more}
use Rattle.rn_parted.proofs.holding.without.Goals as goal

pub loop-other-init : goal.loop-other-init
loop-other-init c k apart has = absurd (not_in_nil k has)

pub loop-other-preserved : goal.loop-other-preserved
loop-other-preserved c k apart has =
    let xs = c.args.numbers.now in
    let i = c.loop-other.other-index in
    ⊎_elim
    (λ (earlier : Contains (take i xs) k).
    c.in_ok-push_other.ensures.keep k (c.loop-other.invariant k apart earlier))
    (λ (same : k ≡ get_or xs i 0).
    subst (Contains c.push_other.new.others.items) (sym same)
    (c.in_ok-push_other.ensures.has (λ e. apart (same ∙ e))))
    (taken_more xs i c.loop-other-test.true k has)

pub returns : goal.returns
returns c k apart has =
    c.loop-other.invariant k apart
    (subst (λ xs. Contains xs k)
    (sym (take_all c.loop-other.other-index c.args.numbers.now
    (omega (arith, c.loop-other-test.false)))) has)
