-- By the kind and the value of the first part.
use Rattle.std.proofs.Common.{◌≡◌, List, ◌∷◌, subst}
use Rattle.std.specs.Prelude.{Option, Some, None, IfSome}
use Rattle.std.proofs.lemmas.Result.{IfOk-weaker}
use Rattle.rn_value.specs.declared.value.Value.{Value}
use Rattle.rn_model.specs.declared.expr.Expr.{Expr}
use Rattle.rn_growing.specs.declared.decision.Head.{Head}
use Rattle.rn_growing.specs.Grown.{Grown}
use Rattle.rn_looking.specs.Forced.{IsFirstPart, IsKnownFirst, IsKnownValue}
use Rattle.rn_looking.specs.NodeKinds.{IsKindedAt}
use Rattle.rn_looking.proofs.KindedValues.{first_kinded}
use Rattle.rn_looking.proofs.arcs.known_first_part.Goals as goal

first_value : (g : Grown) (head : Head) (e part : Expr) → IsFirstPart e part →
    (told : Option Value) → IfSome told (λ v. IsKnownValue g head part v) →
    IfSome told (λ v. IsKnownFirst g head e v)
first_value g head e part first None so = tt
first_value g head e part first (Some v) so = (part, (first.0, first.1, so))

pub known_value-requires : goal.known_value-requires
known_value-requires c =
    let first = rw c.in-Some.is at c.first_part.ensures in
    record {
      kinds = first_kinded c.args.growing.now c.args.head.now c.in-Some.part.now first.0
          (subst (IsKindedAt c.args.growing.now c.args.head.now) first.1 c.requires.kinds);
    }

pub returns-in-Some : goal.returns-in-Some
returns-in-Some c =
    IfOk-weaker _ _ _ (first_value c.args.growing.now c.args.head.now c.args.expr.now
    c.in-Some.part.now (rw c.in-Some.is at c.first_part.ensures)) c.known_value.ensures.value
