use Rattle.std.proofs.Common.{◌≡◌, rules, sym, ◌∙◌, subst}
use Rattle.std.specs.Prelude.{None, Some, true, false, IsTrue, is_some, ◌↔◌}
use Rattle.rn_value.specs.declared.value.Value.{Value}
use Rattle.rn_growing.specs.link.Laid.{IsGiven}
use Rattle.rn_growing.specs.link.Layouts.{id_of}
use Rattle.rn_growing.proofs.Telling.{given_atom, given_free, given_ground, given_never}
use Rattle.rn_growing.proofs.laid.Laid.is_given.Goals as goal

pub returns-in-None : goal.returns-in-None
returns-in-None c =
    let none : id_of c.self.inside.slots c.args.path.now c.args.unknown.now ≡ None =
    search rules in
    subst (λ l. IsTrue false ↔ ((v : Value) × IsGiven l c.args.path.now c.args.unknown.now v))
    c.self.view_is
    (given_never (record { store = c.self.inside.store; slots = c.self.inside.slots })
    c.args.path.now c.args.unknown.now c.mark-kept.ensures.kept none)

pub returns-in-Free : goal.returns-in-Free
returns-in-Free c =
    let at : id_of c.self.inside.slots c.args.path.now c.args.unknown.now ≡ Some
    c.in-Some.id = search rules in
    subst (λ l. IsTrue false ↔ ((v : Value) × IsGiven l c.args.path.now c.args.unknown.now v))
    c.self.view_is
    (given_free (record { store = c.self.inside.store; slots = c.self.inside.slots })
    c.args.path.now c.args.unknown.now c.in-Some.id c.follow-end.result
    c.mark-kept.ensures.kept
    (c.self.invariant c.args.path.now c.args.unknown.now c.in-Some.id at) at
    c.follow-end.ensures.leads c.follow-end.ensures.within (sym c.in-Free.is ∙ c.term.ensures)
    c.follow-end.ensures.end)

pub returns-in-Atom : goal.returns-in-Atom
returns-in-Atom c =
    let at : id_of c.self.inside.slots c.args.path.now c.args.unknown.now ≡ Some
    c.in-Some.id = search rules in
    subst (λ l. IsTrue true ↔ ((v : Value) × IsGiven l c.args.path.now c.args.unknown.now v))
    c.self.view_is
    (given_atom (record { store = c.self.inside.store; slots = c.self.inside.slots })
    c.args.path.now c.args.unknown.now c.in-Some.id c.follow-end.result c.in-Atom.field-0 at
    c.follow-end.ensures.leads c.follow-end.ensures.within (sym c.in-Atom.is ∙ c.term.ensures))

pub returns-in_ok-value-in_default : goal.returns-in_ok-value-in_default
returns-in_ok-value-in_default c =
    let at : id_of c.self.inside.slots c.args.path.now c.args.unknown.now ≡ Some
    c.in-Some.id = search rules in
    subst (λ b. IsTrue b ↔
    ((v : Value) × IsGiven c.args.self.now c.args.path.now c.args.unknown.now v))
    (sym c.is_some.ensures)
    (subst (λ l. IsTrue (is_some c.in_ok-value-in_default.value) ↔
    ((v : Value) × IsGiven l c.args.path.now c.args.unknown.now v)) c.self.view_is
    (given_ground (record { store = c.self.inside.store; slots = c.self.inside.slots })
    c.args.path.now c.args.unknown.now c.in-Some.id c.in_ok-value-in_default.value at
    c.in_ok-value-in_default.ensures.some))
