use Rattle.std.proofs.Common.{◌≡◌, ℕ, sym, subst}
use Rattle.std.proofs.lemmas.Result.{on_ok_weaker}
use Rattle.rn_term.specs.Stores.{State, with_note}
use Rattle.rn_term.specs.Assignments.{Keeps}
use Rattle.rn_term.specs.Occurring.{IsFree}
use Rattle.rn_term.proofs.FreeVariables.{free_agree}
use Rattle.rn_term.proofs.KeepingLemmas.{keeps_note}
use Rattle.rn_term.proofs.Occurrences.{end_is_here}
use Rattle.rn_term.proofs.store.Store.join.Goals as goal

-- a store stays sound where two free variables are made one
sound : (s new : State) (var to : ℕ) → Keeps s → IsFree s var → IsFree s to → (var ≡ to → ⊥) →
    new ≡ with_note s var to → Keeps new
sound s new var to keeps free other apart is =
    subst Keeps (sym is)
    (keeps_note s var to keeps (record {
      var = free.within;
      to = other.within;
      free = free.variable;
      fresh = free.unbound;
      apart = λ leads. apart (sym (end_is_here s to var other.unbound leads));
    }) (free_agree s keeps var to free other))

pub bind-requires-clause-possible : goal.bind-requires-clause-possible
bind-requires-clause-possible c =
    free_agree c.args.self.now (subst Keeps c.self.view_is c.self.invariant.sound) c.args.a
    c.args.b c.requires.a_free c.requires.b_free

pub bind-requires-else-weight-clause-possible : goal.bind-requires-else-weight-clause-possible
bind-requires-else-weight-clause-possible c =
    free_agree c.args.self.now (subst Keeps c.self.view_is c.self.invariant.sound) c.args.b
    c.args.a c.requires.b_free c.requires.a_free

pub returns-then-weight-clause-kept : goal.returns-then-weight-clause-kept
returns-then-weight-clause-kept c =
    on_ok_weaker c.bind.result
    (λ is. sound c.args.self.now c.bind.new.self c.args.a c.args.b
    (subst Keeps c.self.view_is c.self.invariant.sound) c.requires.a_free c.requires.b_free
    c.requires.apart is) c.bind.ensures.noted

pub returns-else-weight-clause-kept : goal.returns-else-weight-clause-kept
returns-else-weight-clause-kept c =
    on_ok_weaker c.bind-else-weight.result
    (λ is. sound c.args.self.now c.bind-else-weight.new.self c.args.b c.args.a
    (subst Keeps c.self.view_is c.self.invariant.sound) c.requires.b_free c.requires.a_free
    (λ same. c.requires.apart (sym same)) is) c.bind-else-weight.ensures.noted
