use Rattle.std.proofs.Common.{subst}
use Rattle.std.specs.Prelude.{Some, IfOk, IsTrue, ◌↔◌}
use Rattle.rn_growing.specs.declared.slot.Unknown.TheVariants.{Var}
use Rattle.rn_growing.specs.Equations.{IsForced}
use Rattle.rn_growing.proofs.Telling.{forced_told}
use Rattle.rn_growing.proofs.growing.Growing.is_forced.Goals as goal

pub returns : goal.returns
returns c =
    subst (λ g. IfOk c.is_given.result
    (λ told. IsTrue told ↔ IsForced g.system g.decisions
    (λ a. Some (a.var c.args.path.now c.args.x)))) c.self.view_is
    (forced_told c.is_given.result c.self.inside.system.now c.self.inside.laid
    c.self.inside.decisions.items c.args.path.now (Var c.args.x) c.self.invariant.0.says
    c.is_given.ensures)
