-- By the kinds of the variables.
use Rattle.std.proofs.Common.{◌∷◌, None, refl, sym, subst}
use Rattle.rn_model.specs.Evaluation.{Env}
use Rattle.rn_looking.specs.NodeKinds.{AreOfKinds}
use Rattle.rn_looking.proofs.KindedValues.{comparisons_fit, read_kinds}
use Rattle.rn_looking.proofs.narrowed.is_passed.Goals as goal

pub is_true-requires-clause-fit : goal.is_true-requires-clause-fit
is_true-requires-clause-fit c =
    let open_to = c.requires in
    let env : Env = record {
      this = c.args.open.now.inst.now;
      step = None;
      pairs = (c.args.open.now.var, c.args.token.now) ∷ c.as_slice.result.now;
    } in
    comparisons_fit open_to.0 env c.args.open.now.guard.now
    (read_kinds open_to.0 env ((c.args.open.now.var, c.args.token.now) ∷ c.as_slice.result.now) refl
    (subst (λ others. AreOfKinds open_to.0 ((c.args.open.now.var, c.args.token.now) ∷ others))
    (sym c.as_slice.ensures.value) open_to.2)) open_to.1
