-- By the pass through all items, and the one through what it left.
use Rattle.std.proofs.Common.{subst}
use Rattle.std.specs.Prelude.{Contains}
use Rattle.std.proofs.lemmas.Result.{IfOk-weaker}
use Rattle.rn_model.specs.Derivation.{items_of}
use Rattle.rn_binding.specs.link.Parts.{picked, HaveTheSame}
use Rattle.rn_binding.specs.link.Passing.{IsPassed, AreLeft}
use Rattle.rn_binding.proofs.Passes.{all_left, left_then}
use Rattle.rn_binding.proofs.derived.sweep.Goals as goal

pub pass-requires-clause-items : goal.pass-requires-clause-items
pass-requires-clause-items c =
    let same : HaveTheSame (picked c.args.parts.now c.in_ok-all.all.items)
    (items_of c.args.subject.system.now c.args.subject.binding.now) =
    subst (HaveTheSame (picked c.args.parts.now c.in_ok-all.all.items)) c.requires.items
    c.in_ok-all.ensures.picks in
    λ item there. (same item).0 (subst (λ ks. Contains (picked c.args.parts.now ks) item)
    c.as_slice-all.ensures.value there)

pub pass-requires-2-clause-items : goal.pass-requires-2-clause-items
pass-requires-2-clause-items c =
    let same : HaveTheSame (picked c.args.parts.now c.in_ok-all.all.items)
    (items_of c.args.subject.system.now c.args.subject.binding.now) =
    subst (HaveTheSame (picked c.args.parts.now c.in_ok-all.all.items)) c.requires.items
    c.in_ok-all.ensures.picks in
    λ item there. (same item).0 (subst (λ ks. Contains (picked c.args.parts.now ks) item)
    c.as_slice-all.ensures.value (c.in_ok-left.ensures.passed.items item
    (subst (λ ks. Contains (picked c.args.parts.now ks) item) c.as_slice-left.ensures.value there)))

pub returns-clause-left : goal.returns-clause-left
returns-clause-left c =
    let same : HaveTheSame (picked c.args.parts.now c.in_ok-all.all.items)
    (items_of c.args.subject.system.now c.args.subject.binding.now) =
    subst (HaveTheSame (picked c.args.parts.now c.in_ok-all.all.items)) c.requires.items
    c.in_ok-all.ensures.picks in
    let first : AreLeft c.args.subject.system.now c.args.subject.binding.now c.args.growing.now
    (picked c.args.parts.now c.in_ok-all.all.items) =
    all_left c.args.subject.system.now c.args.subject.binding.now c.args.growing.now
    (picked c.args.parts.now c.in_ok-all.all.items) c.requires.followed same in
    let second : AreLeft c.args.subject.system.now c.args.subject.binding.now c.pass.new.growing
    (picked c.args.parts.now c.in_ok-left.left.items) =
    left_then c.args.subject.system.now c.args.subject.binding.now c.args.growing.now
    (picked c.args.parts.now c.in_ok-all.all.items) c.pass.new.growing
    (picked c.args.parts.now c.in_ok-left.left.items) first
    (subst (λ ks. IsPassed c.args.subject.system.now c.args.subject.binding.now c.args.growing.now
    (picked c.args.parts.now ks) c.pass.new.growing
    (picked c.args.parts.now c.in_ok-left.left.items)) c.as_slice-all.ensures.value
    c.in_ok-left.ensures.passed) in
    IfOk-weaker c.pass-2.result _ _ (λ left passed. left_then c.args.subject.system.now c.args.subject.binding.now
    c.pass.new.growing (picked c.args.parts.now c.in_ok-left.left.items) c.pass-2.new.growing
    (picked c.args.parts.now left.items) second
    (subst (λ ks. IsPassed c.args.subject.system.now c.args.subject.binding.now c.pass.new.growing
    (picked c.args.parts.now ks) c.pass-2.new.growing (picked c.args.parts.now left.items))
    c.as_slice-left.ensures.value passed)) c.pass-2.ensures.passed
