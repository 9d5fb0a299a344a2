use Rattle.std.proofs.Common.{◌≡◌, rules, ◌∙◌, ap, subst}
use Rattle.std.specs.Prelude.{Some}
use Rattle.rn_unify.specs.link.Adding.{IsKnown}
use Rattle.rn_unify.proofs.KnownRests.{known_added, known_here}
use Rattle.rn_unify.proofs.adding.add_left.Goals as goal

pub returns-then-eq-clause-added : goal.returns-then-eq-clause-added
returns-then-eq-clause-added c =
    let s = c.args.store.now in
    let same : c.in-Some.known ≡ c.args.rest = search rules in
    known_here s c.args.rest c.in-Some.to c.requires.kept
    (subst (IsKnown s) (c.in-Some.is ∙ ap (λ r. Some (r, c.in-Some.to)) same) c.requires.known)

pub returns-clause-known : goal.returns-clause-known
returns-clause-known c =
    let e = c.in_ok-to.ensures in
    known_added c.args.store.now c.add_rest.new.store c.args.rest c.in_ok-to.to e.added
    c.requires.stands.0 e.within e.placed
