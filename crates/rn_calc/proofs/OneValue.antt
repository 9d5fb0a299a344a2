-- Two values are one value exactly where both are there and are the same.
use Rattle.std.proofs.Common.{◌≡◌, ◌↔◌, ◌∙◌, Bool, Option, Some, IsTrue, ap, sym}
use Rattle.rn_value.specs.declared.value.Value.{Value}
use Rattle.rn_model.specs.Lists.{HaveOneValue}

same_of : (v w x : Value) → Some v ≡ Some x → Some w ≡ Some x → v ≡ w
same_of v w x one other = cc

pub one_value : (answer : Bool) (o p : Option Value) (v w : Value) → o ≡ Some v → p ≡ Some w →
    (IsTrue answer ↔ (v ≡ w)) → IsTrue answer ↔ HaveOneValue o p
one_value answer o p v w is its same = (
  λ yes. (v, is, its ∙ ap (λ x. Some x) (sym (same.0 yes))),
  λ one. same.1 (same_of v w one.0 (sym is ∙ one.1) (sym its ∙ one.2)),
)
