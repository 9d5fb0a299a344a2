-- By the list that the guard is.
use Rattle.std.proofs.Common.{◌≡◌, Bool, List, [], ◌∷◌}
use Rattle.std.specs.Prelude.{IsTrue}
use Rattle.std.proofs.lemmas.Result.{IfOk-weaker}
use Rattle.rn_model.specs.declared.expr.Cond.{Cond}
use Rattle.rn_model.specs.declared.expr.Simple.{Simple}
use Rattle.rn_growing.specs.declared.decision.Head.{Head}
use Rattle.rn_growing.specs.Grown.{Grown}
use Rattle.rn_looking.specs.UntrueParts.{HasUntrue, IsPartlyUntrue}
use Rattle.rn_looking.proofs.KindedValues.{list_parts}
use Rattle.rn_looking.proofs.guard_parts.is_partly_untrue.Goals as goal

by_list : (g : Grown) (head : Head) (guard : Cond) (simples : List Simple) →
    guard.any ≡ simples ∷ [] → (answer : Bool) → (IsTrue answer → HasUntrue g head simples) →
    IsTrue answer → IsPartlyUntrue g head guard
by_list g head guard simples any answer so told = (simples, (any, so told))

pub has_untrue-requires : goal.has_untrue-requires
has_untrue-requires c = record {
  kinds = list_parts c.args.growing.now c.args.head.now c.args.guard.now c.in-Some.simples.now
      (rw c.in-Some.is at c.only_list.ensures) c.requires.kinds;
}

pub returns-in-Some : goal.returns-in-Some
returns-in-Some c =
    IfOk-weaker _ _ _ (by_list c.args.growing.now c.args.head.now c.args.guard.now
    c.in-Some.simples.now (rw c.in-Some.is at c.only_list.ensures)) c.has_untrue.ensures
