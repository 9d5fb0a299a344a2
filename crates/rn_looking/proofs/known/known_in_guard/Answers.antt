-- By its variables, each of which stands beside its value.
use Rattle.std.proofs.Common.{◌∙◌, ◌≡◌, rules, refl, sym, subst}
use Rattle.std.specs.Prelude.{All}
use Rattle.rn_looking.specs.Forced.{IsVarForcedIn}
use Rattle.rn_looking.specs.Guards.{vars_of_guard}
use Rattle.rn_looking.proofs.GuardLooks.{knows_guard}
use Rattle.rn_looking.proofs.KnownValues.{forced_by}
use Rattle.rn_looking.proofs.known.known_in_guard.Goals as goal

pub returns-in-Some-clause-knows : goal.returns-in-Some-clause-knows
returns-in-Some-clause-knows c =
    let vars : c.as_slice-2.result.now ≡ vars_of_guard c.args.guard.now = search rules in
    knows_guard c.args.growing.now c.args.head.now c.args.guard.now _ c.as_slice.result.now
    c.as_slice-2.result.now c.in-Some.pairs.items refl refl refl (c.as_slice.ensures ∙ c.deref.ensures) vars
    (rw c.in-Some.is at c.in_ok-pairs.ensures)

pub returns-clause-knows : goal.returns-clause-knows
returns-clause-knows c all =
    let vars : c.as_slice-2.result.now ≡ vars_of_guard c.args.guard.now = search rules in
    let never = rw c.in-None.is at c.in_ok-pairs.ensures in
    never
    (subst (λ p. All (IsVarForcedIn c.args.growing.now p) c.as_slice-2.result.now)
    (sym (c.as_slice.ensures ∙ c.deref.ensures))
    (subst (All (IsVarForcedIn c.args.growing.now c.args.head.now.path)) (sym vars) all))

pub returns-in-Some-clause-forced : goal.returns-in-Some-clause-forced
returns-in-Some-clause-forced c =
    forced_by c.args.growing.now c.args.head.now c.as_slice.result.now c.as_slice-2.result.now
    c.in-Some.pairs.items (c.as_slice.ensures ∙ c.deref.ensures)
    (rw c.in-Some.is at c.in_ok-pairs.ensures)
