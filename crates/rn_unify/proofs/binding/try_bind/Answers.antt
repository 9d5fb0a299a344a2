use Rattle.std.proofs.Common.{◌≡◌, ◌<◌, ℕ, length, refl, sym, subst}
use Rattle.rn_term.specs.Stores.{State, with_note}
use Rattle.rn_term.specs.Assignments.{Keeps}
use Rattle.rn_term.specs.Occurring.{IsFree, Occurs}
use Rattle.rn_term.specs.Forcing.{IsAlwaysList, MayBeList}
use Rattle.rn_term.proofs.FreeVariables.{free_may_be}
use Rattle.rn_term.proofs.KeepingLemmas.{keeps_note}
use Rattle.rn_term.proofs.Occurrences.{leads_occurs, no_circle}
use Rattle.rn_unify.proofs.binding.try_bind.Goals as goal

pub returns-then-branch-clause-joined : goal.returns-then-branch-clause-joined
returns-then-branch-clause-joined c = (
  refl,
  λ one. no_circle c.args.store.now one.0 c.requires.kept one.1 c.args.var c.args.to
      c.requires.apart c.requires.end (c.in_ok-occurs.ensures.exact.0 c.if-branch.true) one.2,
)

pub bind-requires-clause-apart : goal.bind-requires-clause-apart
bind-requires-clause-apart c leads =
    let yes = c.in_ok-occurs.ensures.exact.1
    (leads_occurs c.args.store.now c.args.to c.args.var leads) in cc

pub bind-requires-clause-possible : goal.bind-requires-clause-possible
bind-requires-clause-possible c =
    free_may_be c.args.store.now c.requires.kept c.args.var c.args.to c.requires.free
    c.requires.within (λ is. let yes = c.in_ok-occurs.ensures.exact.1 is in cc)
    (λ list. elim c.else-not-may_be_list.branch [
      | goal.else-not-may_be_list-via-then-not-may_be_list+else-only_lists w ↦
          let yes = w.only_lists.ensures.exact.1 list in cc
      | goal.else-not-may_be_list-via-else-not-may_be_list w ↦
          c.may_be_list.ensures.exact.0 w.if-not-may_be_list.false
    ])

-- a store with a note of a free variable that doesn't occur there is sound
sound : (s new : State) (var to : ℕ) → Keeps s → IsFree s var → to < length s.terms →
    ¬ Occurs s var to → (IsAlwaysList s var → MayBeList s to) → new ≡ with_note s var to → Keeps new
sound s new var to keeps free within apart list is =
    subst Keeps (sym is)
    (keeps_note s var to keeps (record {
      var = free.within;
      to = within;
      free = free.variable;
      fresh = free.unbound;
      apart = λ leads. apart (leads_occurs s to var leads);
    }) (free_may_be s keeps var to free within apart list))

pub returns-clause-kept : goal.returns-clause-kept
returns-clause-kept c =
    sound c.args.store.now c.bind.new.self c.args.var c.args.to c.requires.kept c.requires.free
    c.requires.within (λ is. let yes = c.in_ok-occurs.ensures.exact.1 is in cc)
    (λ list. elim c.else-not-may_be_list.branch [
      | goal.else-not-may_be_list-via-then-not-may_be_list+else-only_lists w ↦
          let yes = w.only_lists.ensures.exact.1 list in cc
      | goal.else-not-may_be_list-via-else-not-may_be_list w ↦
          c.may_be_list.ensures.exact.0 w.if-not-may_be_list.false
    ])
    (rw c.in_ok-bind.was at c.bind.ensures.noted)
