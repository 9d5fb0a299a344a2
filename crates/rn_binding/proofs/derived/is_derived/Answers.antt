-- By whether any item is left, and else by the variables.
use Rattle.std.proofs.Common.{Bool, subst}
use Rattle.std.specs.Prelude.{◌↔◌, All, IfOk, IsTrue}
use Rattle.std.proofs.lemmas.Result.{IfOk-weaker}
use Rattle.rn_model.specs.Derivation.{Derived}
use Rattle.rn_binding.specs.link.Passing.{AreVarsForced}
use Rattle.rn_binding.proofs.Passes.{underived, by_variables}
use Rattle.rn_binding.proofs.derived.is_derived.Goals as goal

pub returns-then-not-branch : goal.returns-then-not-branch
returns-then-not-branch c = (
  λ no. absurd (let never : ⊥ = cc in never),
  λ derived. absurd (underived c.args.system.now c.args.binding.now c.requires.given
      c.bring_all.new.growing c.in_ok-bring_all.field-0 c.in_ok-bring_all.ensures
      c.if-not-branch.true derived),
)

through : (answer : Bool) (A B : Type 0) → (A ↔ B) → (IsTrue answer ↔ A) → IsTrue answer ↔ B
through answer A B by decides = (λ y. by.0 (decides.0 y), λ d. decides.1 (by.1 d))

pub returns : goal.returns
returns c =
    IfOk-weaker _ _ _
    (λ yes decides. through yes
    (All (AreVarsForced c.args.system.now c.bring_all.new.growing) c.args.binding.now.nodes)
    (Derived c.args.system.now c.args.binding.now)
    (by_variables c.args.system.now c.args.binding.now c.requires.given c.bring_all.new.growing
    c.in_ok-bring_all.field-0 c.in_ok-bring_all.ensures c.if-not-branch.false) decides)
    (subst (λ ns. IfOk c.are_all_forced.result
    (λ yes. IsTrue yes ↔ All (AreVarsForced c.args.system.now c.bring_all.new.growing) ns))
    c.as_slice-3.ensures c.are_all_forced.ensures)
