-- By the list that the guard is.
use Rattle.std.proofs.Common.{◌≡◌, ℕ, List, [], ◌∷◌}
use Rattle.std.specs.Prelude.{Option, Some, None, IfSome}
use Rattle.std.proofs.lemmas.Result.{IfOk-weaker}
use Rattle.rn_value.specs.declared.value.Value.{Value}
use Rattle.rn_model.specs.declared.expr.Cond.{Cond}
use Rattle.rn_model.specs.declared.expr.Simple.{Simple}
use Rattle.rn_growing.specs.declared.decision.Head.{Head}
use Rattle.rn_growing.specs.Grown.{Grown}
use Rattle.rn_looking.specs.Equating.{IsEquatedBy, IsEquatedIn}
use Rattle.rn_looking.proofs.KindedValues.{list_parts}
use Rattle.rn_looking.proofs.equated.equated_by.Goals as goal

by_list : (g : Grown) (head : Head) (guard : Cond) (x : ℕ) (simples : List Simple) →
    guard.any ≡ simples ∷ [] → (told : Option (Option Value)) →
    IfSome told (λ w. IsEquatedIn g head simples x w) →
    IfSome told (λ w. IsEquatedBy g head guard x w)
by_list g head guard x simples any None so = tt
by_list g head guard x simples any (Some w) so = (simples, (any, so))

pub equated_in-requires : goal.equated_in-requires
equated_in-requires c = record {
  kinds = list_parts c.args.growing.now c.args.head.now c.args.guard.now c.in-Some.simples.now
      (rw c.in-Some.is at c.only_list.ensures) c.requires.kinds;
}

pub returns-in-Some : goal.returns-in-Some
returns-in-Some c =
    IfOk-weaker _ _ _ (by_list c.args.growing.now c.args.head.now c.args.guard.now c.args.x
    c.in-Some.simples.now (rw c.in-Some.is at c.only_list.ensures)) c.equated_in.ensures
