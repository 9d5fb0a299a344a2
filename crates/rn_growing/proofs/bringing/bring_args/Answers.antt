use Rattle.std.proofs.Common.{◌≡◌}
use Rattle.std.specs.Prelude.{true, false, Some, slice_get}
use Rattle.rn_model.specs.Derivation.{downlink_arg, uplink_arg}
use Rattle.rn_model.specs.Lists.{HaveOneValue}
use Rattle.rn_growing.specs.link.Entering.{ArgHolds}
use Rattle.rn_growing.specs.Equations.{read_at}
use Rattle.rn_growing.specs.link.Grown.{BringsIn}
use Rattle.rn_growing.specs.link.Laid.{Grows}
use Rattle.rn_growing.proofs.BringingSteps.{brings_more, brings_never, brings_all, arg_is}
use Rattle.rn_growing.proofs.BringingSteps.{args_past, others_past}
use Rattle.rn_growing.proofs.Growth.{stands_at}
use Rattle.rn_growing.proofs.LaidSteps.{brings_alike, grows_through}
use Rattle.rn_growing.proofs.bringing.bring_args.Goals as goal

pub returns-then-k-others-clause-brings : goal.returns-then-k-others-clause-brings
returns-then-k-others-clause-brings c =
    brings_all (ArgHolds c.args.from.now c.args.args.now c.args.head.now c.args.others.now)
    c.args.laid.now c.loop-k.laid c.loop-k.k c.loop-k.invariant.0
    (others_past c.args.from.now c.args.args.now c.args.head.now c.args.others.now c.loop-k.k
    c.if-k-others.true)

pub returns-in_err-equate-clause-grows : goal.returns-in_err-equate-clause-grows
returns-in_err-equate-clause-grows c =
    grows_through c.args.laid.now c.loop-k.laid c.equate.new.laid c.loop-k.invariant.1
    c.equate.ensures.grows

pub returns-then-not-branch-clause-brings : goal.returns-then-not-branch-clause-brings
returns-then-not-branch-clause-brings c =
    let k = c.loop-k.k in
    let e = c.index-args-k.result in
    let f = c.index-others-k.result in
    let there : slice_get c.args.args.now k ≡ Some e =
    stands_at c.args.args.now k e c.loop-k-test.true c.index-args-k.is in
    let here : slice_get c.args.others.now k ≡ Some f =
    stands_at c.args.others.now k f c.if-k-others.false c.index-others-k.is in
    let brings : BringsIn c.loop-k.laid
    (λ a. ArgHolds c.args.from.now c.args.args.now c.args.head.now c.args.others.now a k)
    c.equate.new.laid false =
    brings_alike c.loop-k.laid c.equate.new.laid
    (λ a. HaveOneValue
    (read_at a c.args.from.now.head (downlink_arg c.args.from.now.downlink k) e)
    (read_at a c.args.head.now (uplink_arg k) f))
    (λ a. ArgHolds c.args.from.now c.args.args.now c.args.head.now c.args.others.now a k)
    false
    (arg_is c.args.from.now c.args.args.now c.args.head.now c.args.others.now k e f there here)
    (rw c.if-not-branch.true at c.in_ok-equate.ensures.brings) in
    brings_never (ArgHolds c.args.from.now c.args.args.now c.args.head.now c.args.others.now)
    c.args.laid.now c.loop-k.laid c.equate.new.laid k c.loop-k.invariant.0 brings

pub returns-then-not-branch-clause-grows : goal.returns-then-not-branch-clause-grows
returns-then-not-branch-clause-grows c =
    grows_through c.args.laid.now c.loop-k.laid c.equate.new.laid c.loop-k.invariant.1
    c.equate.ensures.grows

pub loop-k-preserved : goal.loop-k-preserved
loop-k-preserved c =
    let k = c.loop-k.k in
    let e = c.index-args-k.result in
    let f = c.index-others-k.result in
    let there : slice_get c.args.args.now k ≡ Some e =
    stands_at c.args.args.now k e c.loop-k-test.true c.index-args-k.is in
    let here : slice_get c.args.others.now k ≡ Some f =
    stands_at c.args.others.now k f c.if-k-others.false c.index-others-k.is in
    let brings : BringsIn c.loop-k.laid
    (λ a. ArgHolds c.args.from.now c.args.args.now c.args.head.now c.args.others.now a k)
    c.equate.new.laid true =
    brings_alike c.loop-k.laid c.equate.new.laid
    (λ a. HaveOneValue
    (read_at a c.args.from.now.head (downlink_arg c.args.from.now.downlink k) e)
    (read_at a c.args.head.now (uplink_arg k) f))
    (λ a. ArgHolds c.args.from.now c.args.args.now c.args.head.now c.args.others.now a k)
    true
    (arg_is c.args.from.now c.args.args.now c.args.head.now c.args.others.now k e f there here)
    (rw c.if-not-branch.false at c.in_ok-equate.ensures.brings) in
    let grows : Grows c.args.laid.now c.equate.new.laid =
    grows_through c.args.laid.now c.loop-k.laid c.equate.new.laid c.loop-k.invariant.1
    c.equate.ensures.grows in (
      brings_more (ArgHolds c.args.from.now c.args.args.now c.args.head.now c.args.others.now)
          c.args.laid.now c.loop-k.laid c.equate.new.laid k c.loop-k.invariant.0
          c.loop-k.invariant.1
          brings,
      grows,
    )

pub returns-clause-brings : goal.returns-clause-brings
returns-clause-brings c =
    brings_all (ArgHolds c.args.from.now c.args.args.now c.args.head.now c.args.others.now)
    c.args.laid.now c.loop-k.laid c.loop-k.k c.loop-k.invariant.0
    (args_past c.args.from.now c.args.args.now c.args.head.now c.args.others.now c.loop-k.k
    c.loop-k-test.false)
