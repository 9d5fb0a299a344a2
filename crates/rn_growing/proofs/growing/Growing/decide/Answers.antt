use Rattle.std.proofs.Common.{◌≡◌, ◌++◌, ◌∷◌, [], rules, ap, ◌∙◌}
use Rattle.std.specs.Prelude.{true, false}
use Rattle.rn_growing.specs.Equations.{Brings}
use Rattle.rn_growing.specs.Grown.{Tries}
use Rattle.rn_growing.specs.link.Grown.{KeepsGrowing, TriesIn}
use Rattle.rn_growing.specs.link.Laid.{Grows}
use Rattle.rn_growing.proofs.Growth.{decided_now, tries_yes, tries_no, tries_tells}
use Rattle.rn_growing.proofs.ThingKeys.{keys_pushed}
use Rattle.rn_growing.proofs.growing.Growing.decide.Goals as goal
use Rattle.rn_growing.proofs.growing.Growing.decide.Goals.{In_ok-push-2, Joined-decision-25}

not_taken : (c : Joined-decision-25) →
    Tries c.args.self.now c.args.decision
    (record { system = c.self.inside.system.now; decisions = c.reserve.new.self.items }) false
not_taken c =
    let told : TriesIn c.self.inside.laid (λ a. Brings c.self.inside.system.now a c.args.decision)
    c.try_keyed.new.laid false =
    rw c.if-not-branch.true at c.in_ok-try_keyed.ensures.tried in
    let same : c.reserve.new.self.items ≡ c.self.inside.decisions.items = search rules in (
      ap (λ es. record { system = c.self.inside.system.now; decisions = es }) same
          ∙ c.self.view_is,
      (tries_no c.args.self.now c.self.inside.system.now c.self.inside.laid
          c.self.inside.decisions.items c.args.decision c.self.view_is c.self.invariant.0.says
          told.1).1,
    )

pub returns-then-not-branch-clause-tries : goal.returns-then-not-branch-clause-tries
returns-then-not-branch-clause-tries c = not_taken c

pub returns-then-not-branch-clause-exact : goal.returns-then-not-branch-clause-exact
returns-then-not-branch-clause-exact c =
    tries_tells false c.args.self.now _ c.args.decision (not_taken c)

keeps : (c : In_ok-push-2) → KeepsGrowing c.self.inside.system.now c.try_keyed.new.laid
    c.push.new.self.items c.push-2.new.self.items
keeps c =
    let told : TriesIn c.self.inside.laid (λ a. Brings c.self.inside.system.now a c.args.decision)
    c.try_keyed.new.laid true =
    rw c.if-not-branch.false at c.in_ok-try_keyed.ensures.tried in
    let grows : Grows c.self.inside.laid c.try_keyed.new.laid = c.in_ok-try_keyed.ensures.grows in
    let decisions : c.push.new.self.items ≡ c.self.inside.decisions.items ++ c.args.decision ∷ [] =
    search rules in
    let frames : c.push-2.new.self.items ≡ c.self.inside.frames.items ++ c.frame-frame.result ∷
    [] = search rules in
    decided_now c.args.self.now c.self.inside.system.now c.self.inside.laid c.try_keyed.new.laid
    c.self.inside.decisions.items c.push.new.self.items c.self.inside.frames.items
    c.push-2.new.self.items c.frame-frame.result c.args.decision c.self.view_is
    c.self.invariant.0 grows told c.frame-kept.ensures.kept c.frame-kept.ensures.laid
    c.frame-frame.ensures.now c.frame-frame.ensures.earlier c.requires.may_come
    c.requires.fresh decisions frames

taken : (c : In_ok-push-2) → Tries c.args.self.now c.args.decision
    (record { system = c.self.inside.system.now; decisions = c.push.new.self.items }) true
taken c =
    let decisions : c.push.new.self.items ≡ c.self.inside.decisions.items ++ c.args.decision ∷ [] =
    search rules in
    tries_yes c.args.self.now c.self.inside.system.now c.try_keyed.new.laid
    c.self.inside.decisions.items c.push.new.self.items c.args.decision c.self.view_is
    decisions (keeps c).says

pub invariant_of-self-2 : goal.invariant_of-self-2
invariant_of-self-2 c =
    let decisions : c.push.new.self.items ≡ c.self.inside.decisions.items ++ c.args.decision ∷ [] =
    search rules in (
      keeps c,
      keys_pushed c.self.inside.decisions.items c.push.new.self.items c.self.inside.keys
          c.try_keyed.new.keys c.args.decision c.self.invariant.1
          (c.in_ok-try_keyed.ensures.put c.if-not-branch.false) decisions,
    )

pub returns-clause-tries : goal.returns-clause-tries
returns-clause-tries c = taken c

pub returns-clause-exact : goal.returns-clause-exact
returns-clause-exact c = tries_tells true c.args.self.now _ c.args.decision (taken c)
