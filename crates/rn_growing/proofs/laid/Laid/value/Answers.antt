use Rattle.std.proofs.Common.{◌≡◌, rules, refl, subst}
use Rattle.std.specs.Prelude.{None, Some, IfOk, ◌↔◌}
use Rattle.rn_value.specs.declared.value.Value.{Value}
use Rattle.rn_growing.specs.link.Laid.{IsGiven}
use Rattle.rn_growing.specs.link.Layouts.{id_of}
use Rattle.rn_growing.proofs.Telling.{given_some, given_none}
use Rattle.rn_growing.proofs.laid.Laid.value.Goals as goal

pub returns-in-Some : goal.returns-in-Some
returns-in-Some c =
    let at : id_of c.self.inside.slots c.args.path.now c.args.unknown.now ≡ Some
    c.in-Some.id = search rules in
    subst (λ l. IfOk c.ground.result
    (λ told. (v : Value) → (told ≡ Some v) ↔ IsGiven l c.args.path.now c.args.unknown.now v))
    c.self.view_is
    (given_some c.ground.result c.self.inside.store
    (record { store = c.self.inside.store; slots = c.self.inside.slots }) c.args.path.now
    c.args.unknown.now c.in-Some.id refl at c.ground.ensures.some)

pub returns-in-None : goal.returns-in-None
returns-in-None c v =
    let at : id_of c.self.inside.slots c.args.path.now c.args.unknown.now ≡ None =
    search rules in
    subst (λ l. (None ≡ Some v) ↔ IsGiven l c.args.path.now c.args.unknown.now v) c.self.view_is
    (given_none (record { store = c.self.inside.store; slots = c.self.inside.slots })
    c.args.path.now c.args.unknown.now v c.mark-kept.ensures.kept at)
