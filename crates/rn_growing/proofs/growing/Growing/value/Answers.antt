use Rattle.std.proofs.Common.{◌≡◌, subst}
use Rattle.std.specs.Prelude.{Some, IfOk, ◌↔◌}
use Rattle.rn_value.specs.declared.value.Value.{Value}
use Rattle.rn_growing.specs.declared.slot.Unknown.TheVariants.{Var}
use Rattle.rn_growing.specs.Equations.{IsForcedTo}
use Rattle.rn_growing.proofs.Telling.{forced_answer}
use Rattle.rn_growing.proofs.growing.Growing.value.Goals as goal

pub returns : goal.returns
returns c =
    subst (λ g. IfOk c.value.result
    (λ told. (v : Value) → (told ≡ Some v) ↔ IsForcedTo g.system g.decisions
    (λ a. Some (a.var c.args.path.now c.args.x)) v)) c.self.view_is
    (forced_answer c.value.result c.self.inside.system.now c.self.inside.laid
    c.self.inside.decisions.items c.args.path.now (Var c.args.x) c.self.invariant.0.says
    c.value.ensures)
