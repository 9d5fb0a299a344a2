-- By the last pass, which left as many items as it tried.
use Rattle.std.proofs.Common.{◌≡◌, length, subst, rules}
use Rattle.std.specs.Prelude.{◌↔◌, IsTrue}
use Rattle.rn_binding.specs.link.Parts.{picked}
use Rattle.rn_binding.specs.link.Passing.{IsPassed}
use Rattle.rn_binding.proofs.Ending.{ends, fewer, goes_on}
use Rattle.rn_binding.proofs.Later.{left_later}
use Rattle.rn_binding.proofs.derived.bring_all.Goals as goal

pub loop-pending-init : goal.loop-pending-init
loop-pending-init c = (
  left_later c.args.subject.system.now c.args.subject.binding.now c.sweep.new.growing c.propagate.new.growing
      (picked c.args.parts.now c.in_ok-pending.pending.items) c.in_ok-pending.ensures.left
      c.in_ok-propagate.ensures,
  c.in_ok-pending.ensures.within,
)

pub returns-then-len : goal.returns-then-len
returns-then-len c =
    let many : length c.in_ok-left.left.items ≡ length c.loop-pending.pending.items = search rules in
    let none : IsTrue c.is_empty.result ↔ (length c.in_ok-left.left.items ≡ 0) = search rules in
    ends c.args.subject.system.now c.args.subject.binding.now c.args.parts.now c.loop-pending.growing
    c.pass.new.growing c.loop-pending.pending.items c.in_ok-left.left.items
    c.loop-pending.invariant.0
    (subst (λ ks. IsPassed c.args.subject.system.now c.args.subject.binding.now c.loop-pending.growing
    (picked c.args.parts.now ks) c.pass.new.growing (picked c.args.parts.now c.in_ok-left.left.items))
    c.as_slice-in-loop-pending.ensures.value c.in_ok-left.ensures.passed)
    c.loop-pending.invariant.1 c.in_ok-left.ensures.within c.is_empty.result many none

pub loop-pending-smaller : goal.loop-pending-smaller
loop-pending-smaller c =
    let differ : length c.in_ok-left.left.items ≡ length c.loop-pending.pending.items → ⊥ =
    λ e. let no : ⊥ = search (rules, e) in no in
    fewer c.args.subject.system.now c.args.subject.binding.now c.args.parts.now c.loop-pending.growing
    c.pass.new.growing c.loop-pending.pending.items c.in_ok-left.left.items
    c.loop-pending.invariant.0
    (subst (λ ks. IsPassed c.args.subject.system.now c.args.subject.binding.now c.loop-pending.growing
    (picked c.args.parts.now ks) c.pass.new.growing (picked c.args.parts.now c.in_ok-left.left.items))
    c.as_slice-in-loop-pending.ensures.value c.in_ok-left.ensures.passed)
    c.loop-pending.invariant.1 c.in_ok-left.ensures.within differ

pub loop-pending-preserved : goal.loop-pending-preserved
loop-pending-preserved c = (
  goes_on c.args.subject.system.now c.args.subject.binding.now c.args.parts.now c.loop-pending.growing
      c.pass.new.growing c.loop-pending.pending.items c.in_ok-left.left.items
      c.loop-pending.invariant.0
      (subst (λ ks. IsPassed c.args.subject.system.now c.args.subject.binding.now c.loop-pending.growing
      (picked c.args.parts.now ks) c.pass.new.growing (picked c.args.parts.now c.in_ok-left.left.items))
      c.as_slice-in-loop-pending.ensures.value c.in_ok-left.ensures.passed)
      c.loop-pending.invariant.1 c.in_ok-left.ensures.within,
  c.in_ok-left.ensures.within,
)
