-- By the form of the target.
use Rattle.std.proofs.Common.{◌∙◌, ◌≡◌, inl, inr, subst}
use Rattle.std.specs.Prelude.{Some, ◌↔◌}
use Rattle.std.proofs.lemmas.Result.{IfOk-weaker}
use Rattle.rn_value.specs.declared.value.Value.{Value}
use Rattle.rn_model.specs.Derivation.{target}
use Rattle.rn_growing.specs.Equations.{IsForcedTo}
use Rattle.rn_looking.proofs.Targets.{net_form, this_target, var_target}
use Rattle.rn_looking.proofs.calls.target_of.Goals as goal

pub returns-in_ok-copy_inst-in-This : goal.returns-in_ok-copy_inst-in-This
returns-in_ok-copy_inst-in-This c =
    this_target c.args.growing.now c.args.head.now (target c.args.i) c.args.expr.now
    c.in_ok-copy_inst-in-This.field-0 c.in-This.is c.in_ok-copy_inst-in-This.ensures

pub returns-in-Var : goal.returns-in-Var
returns-in-Var c =
    IfOk-weaker _ _ _ (λ told tells. var_target c.args.growing.now c.args.head.now
    (target c.args.i) c.args.expr.now c.in-Var.x c.in-Var.is told
    (subst (λ p. (v : Value) → (told ≡ Some v) ↔ IsForcedTo c.args.growing.now.system
    c.args.growing.now.decisions (λ a. Some (a.var p c.in-Var.x)) v) (c.as_slice.ensures ∙ c.deref.ensures) tells))
    c.value.ensures

pub returns-in_default : goal.returns-in_default
returns-in_default c =
    elim (net_form c.requires.0 c.args.expr.now c.requires.1) [
      | inl this ↦ absurd (c.in_default.not-This this)
      | inr var ↦ absurd (c.in_default.not-Var var.0 var.1)
    ]
