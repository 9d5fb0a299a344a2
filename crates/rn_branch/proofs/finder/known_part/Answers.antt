-- By the value to which the variable is forced.
use Rattle.std.proofs.Common.{◌≡◌, ◌∙◌, ap, sym, subst}
use Rattle.std.specs.Prelude.{Some, IfOk, ◌↔◌}
use Rattle.std.specs.List.{list_any}
use Rattle.std.specs.Option.{option_copied}
use Rattle.rn_value.specs.declared.value.Value.{Value}
use Rattle.rn_growing.specs.Decided.{finds}
use Rattle.rn_looking.specs.Forced.{IsVarForcedTo}
use Rattle.rn_branch.proofs.LackingParts.{known_is}
use Rattle.rn_branch.proofs.finder.known_part.Goals as goal

pub returns : goal.returns
returns c =
    let g = c.args.growing.now in
    let path = c.as_slice-path.ensures ∙ c.deref.ensures in
    known_is g c.args.k c.args.finder.now c.args.i c.in-Some-Var.x c.in-Tuple.parts
    c.value.result c.in-Tuple.is
    (sym c.get.ensures.value ∙ ap option_copied c.in-Some-Var.is
    ∙ ap Some c.in-Some-Var.field-0-is)
    (ap (λ p. list_any (finds p c.args.k) g.decisions) (sym path) ∙ sym c.was_found.ensures
    ∙ c.if-was_found.false)
    (subst (λ p. IfOk c.value.result
    (λ told. (v : Value) → (told ≡ Some v) ↔ IsVarForcedTo g p c.in-Some-Var.x v)) path
    (subst (λ y. IfOk c.value.result
    (λ told. (v : Value) → (told ≡ Some v) ↔ IsVarForcedTo g c.as_slice-path.result.now y v))
    c.in-Some-Var.x-is c.value.ensures))
