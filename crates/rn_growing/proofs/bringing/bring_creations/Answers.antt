use Rattle.std.proofs.Common.{◌≡◌, get_or, ◌∙◌, subst}
use Rattle.std.specs.Prelude.{true, false, Some, slice_get}
use Rattle.std.proofs.lemmas.Option.{slice_get-get_or}
use Rattle.rn_value.specs.declared.value.InstRef.TheVariants.{New}
use Rattle.rn_value.specs.declared.value.Value.TheVariants as Value
use Rattle.rn_growing.specs.link.Building.{GetsValue}
use Rattle.rn_growing.specs.link.Entering.{CreationHolds}
use Rattle.rn_growing.specs.link.Grown.{BringsIn}
use Rattle.rn_growing.specs.link.Laid.{Builds, Grows}
use Rattle.rn_growing.proofs.BringingSteps.{brings_more, brings_never, brings_all, creation_is}
use Rattle.rn_growing.proofs.BringingSteps.{creations_past, then_gets}
use Rattle.rn_growing.proofs.LaidSteps.{brings_alike, grows_through}
use Rattle.rn_growing.proofs.bringing.bring_creations.Goals as goal

pub returns-then-not-branch-clause-brings : goal.returns-then-not-branch-clause-brings
returns-then-not-branch-clause-brings c =
    let j = c.loop-j.j in
    let path : c.from_vec-path.result ≡ c.args.head.now.path = c.from_vec-path.ensures
    ∙ c.in_ok-from_slice.ensures.items ∙ c.as_slice.ensures ∙ c.deref.ensures in
    let creation = get_or c.args.creations.now j _ in
    let there : slice_get c.args.creations.now j ≡ Some creation =
    slice_get-get_or c.args.creations.now j _ c.loop-j-test.true in
    let var : Builds c.loop-j.laid (λ a. Some (a.var c.args.head.now.path creation.var))
    c.unknown.new.self c.in_ok-var.var =
    c.in_ok-var.ensures.built in
    let gets : GetsValue c.unknown.new.self c.in_ok-var.var
    (Value.Inst (New c.args.head.now.path j)) c.give.new.laid false =
    subst (λ p. GetsValue c.unknown.new.self c.in_ok-var.var (Value.Inst (New p j))
    c.give.new.laid false) path (rw c.if-not-branch.true at c.in_ok-give.ensures.gets) in
    let brings : BringsIn c.loop-j.laid
    (λ a. CreationHolds c.args.head.now c.args.creations.now a j) c.give.new.laid false =
    brings_alike c.loop-j.laid c.give.new.laid
    (λ a. Some (a.var c.args.head.now.path creation.var) ≡ Some
    (Value.Inst (New c.args.head.now.path j)))
    (λ a. CreationHolds c.args.head.now c.args.creations.now a j) false
    (creation_is c.args.head.now c.args.creations.now j creation there)
    (then_gets c.loop-j.laid c.unknown.new.self c.give.new.laid
    (λ a. Some (a.var c.args.head.now.path creation.var)) c.in_ok-var.var
    (Value.Inst (New c.args.head.now.path j)) false var c.unknown.ensures.grows gets) in
    brings_never (CreationHolds c.args.head.now c.args.creations.now) c.args.laid.now c.loop-j.laid
    c.give.new.laid j c.loop-j.invariant.0 brings

pub returns-then-not-branch-clause-grows : goal.returns-then-not-branch-clause-grows
returns-then-not-branch-clause-grows c =
    grows_through c.args.laid.now c.loop-j.laid c.give.new.laid c.loop-j.invariant.1
    (grows_through c.loop-j.laid c.unknown.new.self c.give.new.laid c.unknown.ensures.grows
    c.give.ensures.grows)

pub loop-j-preserved : goal.loop-j-preserved
loop-j-preserved c =
    let j = c.loop-j.j in
    let path : c.from_vec-path.result ≡ c.args.head.now.path = c.from_vec-path.ensures
    ∙ c.in_ok-from_slice.ensures.items ∙ c.as_slice.ensures ∙ c.deref.ensures in
    let creation = get_or c.args.creations.now j _ in
    let there : slice_get c.args.creations.now j ≡ Some creation =
    slice_get-get_or c.args.creations.now j _ c.loop-j-test.true in
    let var : Builds c.loop-j.laid (λ a. Some (a.var c.args.head.now.path creation.var))
    c.unknown.new.self c.in_ok-var.var =
    c.in_ok-var.ensures.built in
    let gets : GetsValue c.unknown.new.self c.in_ok-var.var
    (Value.Inst (New c.args.head.now.path j)) c.give.new.laid true =
    subst (λ p. GetsValue c.unknown.new.self c.in_ok-var.var (Value.Inst (New p j))
    c.give.new.laid true) path (rw c.if-not-branch.false at c.in_ok-give.ensures.gets) in
    let brings : BringsIn c.loop-j.laid
    (λ a. CreationHolds c.args.head.now c.args.creations.now a j) c.give.new.laid true =
    brings_alike c.loop-j.laid c.give.new.laid
    (λ a. Some (a.var c.args.head.now.path creation.var) ≡ Some
    (Value.Inst (New c.args.head.now.path j)))
    (λ a. CreationHolds c.args.head.now c.args.creations.now a j) true
    (creation_is c.args.head.now c.args.creations.now j creation there)
    (then_gets c.loop-j.laid c.unknown.new.self c.give.new.laid
    (λ a. Some (a.var c.args.head.now.path creation.var)) c.in_ok-var.var
    (Value.Inst (New c.args.head.now.path j)) true var c.unknown.ensures.grows gets) in
    let grows : Grows c.args.laid.now c.give.new.laid =
    grows_through c.args.laid.now c.loop-j.laid c.give.new.laid c.loop-j.invariant.1
    (grows_through c.loop-j.laid c.unknown.new.self c.give.new.laid c.unknown.ensures.grows
    c.give.ensures.grows) in (
      brings_more (CreationHolds c.args.head.now c.args.creations.now) c.args.laid.now
          c.loop-j.laid
          c.give.new.laid j c.loop-j.invariant.0 c.loop-j.invariant.1 brings,
      grows,
    )

pub returns-clause-brings : goal.returns-clause-brings
returns-clause-brings c =
    brings_all (CreationHolds c.args.head.now c.args.creations.now) c.args.laid.now c.loop-j.laid
    c.loop-j.j c.loop-j.invariant.0
    (creations_past c.args.head.now c.args.creations.now c.loop-j.j c.loop-j-test.false)
