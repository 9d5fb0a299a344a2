use Rattle.std.proofs.Common.{sym, subst}
use Rattle.std.specs.Prelude.{IfOk}
use Rattle.rn_unify.specs.declared.equation.Other.TheVariants as O
use Rattle.rn_unify.specs.link.Adding.{IsOf, Turns}
use Rattle.rn_unify.specs.link.Equations.{IsOther}
use Rattle.rn_term.specs.declared.term.Term.TheVariants as T
use Rattle.rn_unify.proofs.KnownRests.{known_result}
use Rattle.rn_unify.proofs.adding.add_other.Goals as goal

pub returns-in-Value-clause-added : goal.returns-in-Value-clause-added
returns-in-Value-clause-added c =
    subst (λ o. IfOk c.add_term.result (λ to.
    Turns c.args.store.now (IsOther o) c.add_term.new.store (IsOther (O.Here to))))
    (sym c.in-Value.is) c.add_term.ensures.added

pub returns-in-Value-clause-known : goal.returns-in-Value-clause-known
returns-in-Value-clause-known c =
    known_result c.args.store.now c.add_term.new.store c.args.newest.now
    (IsOf (T.Atom c.in-Value.value)) c.add_term.result c.requires.known c.add_term.ensures.added

pub returns-in-Values-clause-known : goal.returns-in-Values-clause-known
returns-in-Values-clause-known c =
    known_result c.args.store.now c.add_values.new.store c.args.newest.now
    (IsOther (O.Values c.in-Values.values)) c.add_values.result c.requires.known
    (rw c.into_vec.ensures at c.add_values.ensures.added)
