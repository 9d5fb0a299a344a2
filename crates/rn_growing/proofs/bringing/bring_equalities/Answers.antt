use Rattle.std.proofs.Common.{◌≡◌}
use Rattle.std.specs.Prelude.{true, false, Some, slice_get}
use Rattle.rn_model.specs.Derivation.{left, right}
use Rattle.rn_model.specs.Lists.{HaveOneValue}
use Rattle.rn_growing.specs.link.Entering.{EqualityHolds}
use Rattle.rn_growing.specs.Equations.{read_at}
use Rattle.rn_growing.specs.link.Grown.{BringsIn}
use Rattle.rn_growing.specs.link.Laid.{Grows}
use Rattle.rn_growing.proofs.BringingSteps.{brings_more, brings_never, brings_all, equality_is}
use Rattle.rn_growing.proofs.BringingSteps.{equalities_past}
use Rattle.rn_growing.proofs.Growth.{stands_at}
use Rattle.rn_growing.proofs.LaidSteps.{brings_alike, grows_through}
use Rattle.rn_growing.proofs.bringing.bring_equalities.Goals as goal

pub returns-then-not-branch-clause-brings : goal.returns-then-not-branch-clause-brings
returns-then-not-branch-clause-brings c =
    let i = c.loop-i.i in
    let e = c.index-equalities-i.result in
    let there : slice_get c.args.equalities.now i ≡ Some e =
    stands_at c.args.equalities.now i e c.loop-i-test.true c.index-equalities-i.is in
    let never : BringsIn c.loop-i.laid
    (λ a. EqualityHolds c.args.head.now c.args.equalities.now a i) c.equate.new.laid false =
    brings_alike c.loop-i.laid c.equate.new.laid
    (λ a. HaveOneValue (read_at a c.args.head.now (left i) e.0)
    (read_at a c.args.head.now (right i) e.1))
    (λ a. EqualityHolds c.args.head.now c.args.equalities.now a i) false
    (equality_is c.args.head.now c.args.equalities.now i e there)
    (rw c.if-not-branch.true at c.in_ok-equate.ensures.brings) in
    brings_never (EqualityHolds c.args.head.now c.args.equalities.now) c.args.laid.now
    c.loop-i.laid c.equate.new.laid i c.loop-i.invariant.0 never

pub returns-then-not-branch-clause-grows : goal.returns-then-not-branch-clause-grows
returns-then-not-branch-clause-grows c =
    grows_through c.args.laid.now c.loop-i.laid c.equate.new.laid c.loop-i.invariant.1
    c.equate.ensures.grows

pub loop-i-preserved : goal.loop-i-preserved
loop-i-preserved c =
    let i = c.loop-i.i in
    let e = c.index-equalities-i.result in
    let there : slice_get c.args.equalities.now i ≡ Some e =
    stands_at c.args.equalities.now i e c.loop-i-test.true c.index-equalities-i.is in
    let brings : BringsIn c.loop-i.laid
    (λ a. EqualityHolds c.args.head.now c.args.equalities.now a i) c.equate.new.laid true =
    brings_alike c.loop-i.laid c.equate.new.laid
    (λ a. HaveOneValue (read_at a c.args.head.now (left i) e.0)
    (read_at a c.args.head.now (right i) e.1))
    (λ a. EqualityHolds c.args.head.now c.args.equalities.now a i) true
    (equality_is c.args.head.now c.args.equalities.now i e there)
    (rw c.if-not-branch.false at c.in_ok-equate.ensures.brings) in
    let grows : Grows c.args.laid.now c.equate.new.laid =
    grows_through c.args.laid.now c.loop-i.laid c.equate.new.laid c.loop-i.invariant.1
    c.equate.ensures.grows in (
      brings_more (EqualityHolds c.args.head.now c.args.equalities.now) c.args.laid.now
          c.loop-i.laid c.equate.new.laid i c.loop-i.invariant.0 c.loop-i.invariant.1 brings,
      grows,
    )

pub returns-clause-brings : goal.returns-clause-brings
returns-clause-brings c =
    brings_all (EqualityHolds c.args.head.now c.args.equalities.now) c.args.laid.now c.loop-i.laid
    c.loop-i.i c.loop-i.invariant.0
    (equalities_past c.args.head.now c.args.equalities.now c.loop-i.i c.loop-i-test.false)
