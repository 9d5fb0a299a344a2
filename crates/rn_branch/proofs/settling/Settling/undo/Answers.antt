-- What was settled before the decisions that are taken back is so again.
use Rattle.std.proofs.Common.{◌≡◌, ◌<◌, ◌≤◌, ◌∙◌, ap, length, take, rules, sym, subst, arith}
use Rattle.std.specs.Prelude.{Some, slice_get}
use Rattle.std.proofs.lemmas.List.{take_all}
use Rattle.rn_growing.specs.Grown.{Grown, first_decisions}
use Rattle.rn_growing.proofs.Growth.{stands_at}
use Rattle.rn_branch.specs.Keeping.{KeepsApplied}
use Rattle.rn_branch.specs.Keeping.{KeepsSettled}
use Rattle.rn_branch.proofs.Applied.{applied_fewer}
use Rattle.rn_branch.proofs.Settled.{keeps_fewer}
use Rattle.rn_branch.proofs.settling.Settling.undo.Goals as goal

pub undo-requires : goal.undo-requires
undo-requires c =
    subst (λ (g : Grown). c.args.count ≤ length g.decisions) (sym c.self.view_is) c.requires

pub returns-then-count-len : goal.returns-then-count-len
returns-then-count-len c =
    let each = c.self.invariant.0.each in
    let all : length c.self.inside.growing.decisions ≤ c.args.count = omega (arith, each) in
    sym c.self.view_is
    ∙ sym (ap (λ ds. record { system = c.self.inside.growing.system; decisions = ds })
    (take_all c.args.count c.self.inside.growing.decisions all))
    ∙ ap (first_decisions c.args.count) c.self.view_is

pub invariant_of-self : goal.invariant_of-self
invariant_of-self c =
    let within : c.args.count < length c.self.inside.before.items = search rules in
    let at : slice_get c.self.inside.before.items c.args.count ≡ Some c.index.result.now =
    stands_at c.self.inside.before.items c.args.count c.index.result.now within c.index.ensures in
    let left : c.truncate.new.self.items ≡ take c.args.count c.self.inside.before.items =
    search rules in
    let kept : c.truncate-2.new.self.items ≡ take c.args.count c.self.inside.applications.items =
    search rules in (
      subst (KeepsSettled c.undo.new.self c.index.result.now) (sym left)
          (subst (λ g. KeepsSettled g c.index.result.now
          (take c.args.count c.self.inside.before.items)) (sym c.undo.ensures)
          (keeps_fewer c.self.inside.growing c.args.count c.self.inside.settled
          c.index.result.now c.self.inside.before.items c.self.invariant.0 at)),
      subst (KeepsApplied c.self.inside.system.now c.undo.new.self) (sym kept)
          (subst (λ g. KeepsApplied c.self.inside.system.now g
          (take c.args.count c.self.inside.applications.items)) (sym c.undo.ensures)
          (applied_fewer c.self.inside.system.now c.self.inside.growing c.args.count
          c.self.inside.applications.items c.self.invariant.1)),
    )

pub returns : goal.returns
returns c = c.undo.ensures ∙ ap (first_decisions c.args.count) c.self.view_is
