-- What was settled before one decision more stays so.
use Rattle.std.proofs.Common.{◌≡◌, ◌++◌, ◌∷◌, [], rules, sym, subst}
use Rattle.std.specs.Prelude.{true, false}
use Rattle.rn_growing.specs.Grown.{Grown, Tries, IsNew}
use Rattle.rn_growing.specs.Turns.{MayCome}
use Rattle.rn_branch.specs.Keeping.{KeepsApplied}
use Rattle.rn_branch.specs.Keeping.{KeepsSettled}
use Rattle.rn_branch.proofs.Applied.{applied_more, keeps_same}
use Rattle.rn_branch.proofs.Settled.{keeps_more}
use Rattle.rn_branch.proofs.settling.Settling.decide.Goals as goal

pub decide-requires-clause-may_come : goal.decide-requires-clause-may_come
decide-requires-clause-may_come c =
    subst (λ (g : Grown). MayCome g.system g.decisions c.args.decision) (sym c.self.view_is)
    c.requires.may_come

pub decide-requires-clause-fresh : goal.decide-requires-clause-fresh
decide-requires-clause-fresh c =
    subst (λ (g : Grown). IsNew g.decisions c.args.decision) (sym c.self.view_is)
    c.requires.fresh

pub returns-then-not-branch : goal.returns-then-not-branch
returns-then-not-branch c = record {
  tries = subst (λ g. Tries g c.args.decision c.decide.new.growing false) c.self.view_is
      (rw c.if-not-branch.true at c.in_ok-decide.ensures.tries);
}

pub invariant_of-self-in_err-decide : goal.invariant_of-self-in_err-decide
invariant_of-self-in_err-decide c =
    let same : c.decide.new.growing ≡ c.self.inside.growing = c.in_err-decide.ensures.err in
    let is : c.make_room.new.before.items ≡ c.self.inside.before.items = search rules in
    let are : c.make_room.new.applications.items ≡ c.self.inside.applications.items = search rules in
    keeps_same c.self.inside.system.now c.self.inside.growing c.decide.new.growing
    c.self.inside.settled c.self.inside.before.items c.make_room.new.before.items
    c.self.inside.applications.items c.make_room.new.applications.items same is are c.self.invariant

pub invariant_of-self-then-not-branch : goal.invariant_of-self-then-not-branch
invariant_of-self-then-not-branch c =
    let same : c.decide.new.growing ≡ c.self.inside.growing =
    (let told : Tries c.self.inside.growing c.args.decision c.decide.new.growing false =
    rw c.if-not-branch.true at c.in_ok-decide.ensures.tries in told.0) in
    let is : c.make_room.new.before.items ≡ c.self.inside.before.items = search rules in
    let are : c.make_room.new.applications.items ≡ c.self.inside.applications.items = search rules in
    keeps_same c.self.inside.system.now c.self.inside.growing c.decide.new.growing
    c.self.inside.settled c.self.inside.before.items c.make_room.new.before.items
    c.self.inside.applications.items c.make_room.new.applications.items same is are c.self.invariant

pub invariant_of-self-2 : goal.invariant_of-self-2
invariant_of-self-2 c =
    let told : Tries c.self.inside.growing c.args.decision c.decide.new.growing true =
    rw c.if-not-branch.false at c.in_ok-decide.ensures.tries in
    let put : c.push_reserved.new.self.items ≡ c.self.inside.before.items ++ c.self.inside.settled ∷ [] =
    search rules in
    let beside : c.push_reserved-2.new.self.items
    ≡ c.self.inside.applications.items ++ c.in_ok-applications.applications ∷ [] =
    search rules in (
      subst (KeepsSettled c.decide.new.growing c.self.inside.settled) (sym put)
          (subst (λ g. KeepsSettled g c.self.inside.settled
          (c.self.inside.before.items ++ c.self.inside.settled ∷ [])) (sym told.0)
          (keeps_more c.self.inside.growing c.args.decision c.self.inside.settled
          c.self.inside.before.items c.self.invariant.0)),
      subst (KeepsApplied c.self.inside.system.now c.decide.new.growing) (sym beside)
          (subst (λ g. KeepsApplied c.self.inside.system.now g
          (c.self.inside.applications.items ++ c.in_ok-applications.applications ∷ []))
          (sym told.0)
          (applied_more c.self.inside.system.now c.self.inside.growing c.args.decision
          c.self.inside.applications.items c.in_ok-applications.applications
          c.self.invariant.1 c.in_ok-applications.ensures)),
    )

pub returns : goal.returns
returns c = record {
  tries = subst (λ g. Tries g c.args.decision c.decide.new.growing true) c.self.view_is
      (rw c.if-not-branch.false at c.in_ok-decide.ensures.tries);
}
