-- `Shared` in a type that contains itself through it: how it holds its value.
use mathlib.Core.Path.{refl}
use mathlib.Core.Former.{Former, this, const, pair, via}
use base.Stored.{gnil}
use base.Fml.{ftrue}
use denote.RattleType.{RattleType}
use denote.Memory.{part_of}
use denote.RawPtr.{Ptr}
use denote.Sharing.{nothing}
use denote.HoleLaws.{Alike}
use denote.HolePlaces.{Recodes, struct_places, laid, one_value}
use denote.Hole.Fix.{over}
use denote.Param.Weighed.{Weighed}
use denote.Model.Placed.{view_places}
use Rattle.std.specs.declared.sync.Arc.{Arc}
use Rattle.std.specs.contracts.sync.Arc as arc
use Rattle.std.specs.declared.alloc.Global.{Global}
use Rattle.std.specs.contracts.alloc.Global as heap
use Rattle.std.specs.contracts.impls.GlobalAllocator.TheImpl.{ghosts}
use Rattle.rn_shared.specs.declared.shared.Shared.TheInside.{Inside}
use Rattle.rn_shared.specs.declared.shared.Shared.TheView.{view, invariant}
use Rattle.rn_shared.specs.contracts.shared.Shared as outside
use Rattle.rn_shared.specs.contracts.shared.Shared.TheInside as inside

-- as a value it is the value that it shares
abbrev pub the_former : Former {0} → Former {0}
the_former value = value

abbrev pub the_weighed : {value : Former {0}} → Weighed value → Weighed (the_former value)
the_weighed weighed = weighed

-- its one field is a pointer, and the value to which it points
abbrev field : Former {0}
field = via (pair (const Ptr) this) Inside (λ T a. (a.owner.ptr, a.owner.value))
    (λ T v. record { owner = record { ptr = v.0; value = v.1 } }) (λ T a. refl) (λ T v. refl)

-- the same owner of another value
abbrev round : {X Y : Type 0} → Arc X Global → Y → Arc Y Global
round a y = record { ptr = a.ptr; value = y }

abbrev arc_row : RattleType → RattleType
arc_row R = arc.the_row R heap.the_row ghosts

module _ (R S : RattleType) (h : R.Denot → S.Denot) where
  arc_places : Alike R S h → Alike (arc_row R) (arc_row S) (λ a. round a (h a.value))
  unfolding part_of
  arc_places alike = record {
    mir_same = λ i. (arc_row (one_value R (alike.mir_same i) (λ _. ftrue) (λ _ _. nothing) gnil)).mir;
    own_same = λ a i. (arc_row (one_value R (alike.mir_same i) (alike.own_same a.value i) (alike.shr_same a.value i) gnil)).own_val (round a tt);
    shr_same = λ a i. (arc_row (one_value R (alike.mir_same i) (alike.own_same a.value i) (alike.shr_same a.value i) gnil)).shr_at (round a tt);
  }

  -- it lies, owns and lends as that owner does
  pub the_places : Alike R S h → Alike (outside.the_row R) (outside.the_row S) ((the_former this).map R.Denot S.Denot h)
  the_places alike = view_places field this view (λ X Y k u. refl) (λ X u. refl) R.Denot S.Denot h (outside.the_row R).coded (outside.the_row S).coded
      (invariant R.Denot) (invariant S.Denot) (λ u p q. refl) (λ u p q. refl) (λ u e. tt) (λ u e. tt)
      (over (inside.the_row R)) (over (inside.the_row S))
      (struct_places (inside.the_type R) (inside.the_type S) ((λ a. round a (h a.value)), tt) _ (λ d. refl) refl (laid _ _ _ (arc_places alike), tt))

  pub the_codes_placed : Recodes R S h → Recodes (outside.the_row R) (outside.the_row S) ((the_former this).map R.Denot S.Denot h)
  the_codes_placed recodes value = recodes value
