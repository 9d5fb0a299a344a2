-- Creation by creation.
use Rattle.std.proofs.Common.{◌≡◌, refl}
use Rattle.std.specs.Prelude.{Some}
use Rattle.rn_value.specs.declared.value.InstRef.TheVariants.{New}
use Rattle.rn_value.specs.declared.value.Value.TheVariants as Value
use Rattle.rn_model.specs.declared.system.Creation.{Creation}
use Rattle.rn_model.specs.Lists.{value_beside}
use Rattle.rn_calc.specs.link.NodeValues.{lent_env}
use Rattle.rn_agree.proofs.EachLemmas.{indexed_more}
use Rattle.rn_agree.proofs.inscriptions.are_created.Goals as goal

pub loop-j-preserved : goal.loop-j-preserved
loop-j-preserved c =
    indexed_more
    (λ j (made : Creation). value_beside (lent_env c.args.values.now).pairs made.var
    ≡ Some (Value.Inst (New c.args.path.now j)))
    c.args.creations.now c.args.creations.now refl c.loop-j.j _
    c.loop-j-test.true c.loop-j.invariant (c.is_created.ensures.0 c.if-not-is_created.false)
