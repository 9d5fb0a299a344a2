-- By its variables, each of which stands beside its value.
use Rattle.std.proofs.Common.{◌∙◌, refl, sym, subst}
use Rattle.std.specs.Prelude.{All}
use Rattle.rn_model.specs.Systems.{vars_in}
use Rattle.rn_looking.specs.Forced.{IsVarForcedIn}
use Rattle.rn_looking.proofs.KnownValues.{forced_by, knows_by}
use Rattle.rn_looking.proofs.known.known_in.Goals as goal

pub returns-in-Some-clause-knows : goal.returns-in-Some-clause-knows
returns-in-Some-clause-knows c =
    knows_by c.args.growing.now c.args.head.now c.args.expr.now _ c.as_slice.result.now
    (vars_in c.args.expr.now) c.in-Some.pairs.items refl refl refl (c.as_slice.ensures ∙ c.deref.ensures) refl
    (rw c.in-Some.is at c.in_ok-pairs.ensures)

pub returns-in-None-clause-knows : goal.returns-in-None-clause-knows
returns-in-None-clause-knows c all =
    let never = rw c.in-None.is at c.in_ok-pairs.ensures in
    never
    (subst (λ p. All (IsVarForcedIn c.args.growing.now p) (vars_in c.args.expr.now))
    (sym (c.as_slice.ensures ∙ c.deref.ensures)) all)

pub returns-in-Some-clause-forced : goal.returns-in-Some-clause-forced
returns-in-Some-clause-forced c =
    forced_by c.args.growing.now c.args.head.now c.as_slice.result.now (vars_in c.args.expr.now)
    c.in-Some.pairs.items (c.as_slice.ensures ∙ c.deref.ensures)
    (rw c.in-Some.is at c.in_ok-pairs.ensures)
