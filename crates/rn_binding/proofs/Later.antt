-- A binding that grew, of which nothing else is said.
use Rattle.std.proofs.Common.{◌≡◌, ◌<◌, ℕ, Bool, true, false, List, map, length, get_or, inl, inr, sym, subst}
use Rattle.std.specs.Prelude.{Contains, Result, Ok, Err, IfOk, OnOk}
use Rattle.rn_model.proofs.AskedValues.{contained_mapped}
use Rattle.rn_model.specs.declared.system.System.{System}
use Rattle.rn_model.specs.declared.binding.Binding.{Binding}
use Rattle.rn_model.specs.Derivation.{Item}
use Rattle.rn_growing.specs.Grown.{Grown}
use Rattle.rn_binding.specs.declared.part.Part.{Part}
use Rattle.rn_binding.specs.link.Parts.{item_of}
use Rattle.rn_binding.specs.link.Passing.{IsFollowed, IsLater, BringsItem, AreLeft}
use Rattle.rn_binding.proofs.Passes.{stays_decided}

module _ (system : System) (b : Binding) where
  pub not_yet : (g : Grown) → IsFollowed system b g → IsLater system b g g
  not_yet g followed = record { followed = followed; stay = λ d there. there }

  pub later_then : (old now new : Grown) → IsLater system b old now → IsLater system b now new →
      IsLater system b old new
  later_then old now new first second = record {
    followed = second.followed;
    stay = λ d there. second.stay d (first.stay d there);
  }

  -- after one item was tried
  pub later_by : (old : Grown) (item : Item) (new : Grown) (answer : Bool) →
      IsFollowed system b new → BringsItem system b old item new answer →
      IsLater system b old new
  later_by old item new true followed brings = record { followed = followed; stay = brings.0 }
  later_by old item new false followed brings = record {
    followed = followed;
    stay = λ d there. subst (λ g. Contains g.decisions d) (sym brings.0) there;
  }

  -- no more items are left then
  pub left_later : (old new : Grown) (left : List Item) → AreLeft system b old left →
      IsLater system b old new → AreLeft system b new left
  left_later old new left before later = record {
    followed = later.followed;
    items = before.items;
    covered = λ item there. elim (before.covered item there) [
      | inl decided ↦ inl (stays_decided system b old.decisions new.decisions item later.stay decided)
      | inr still ↦ inr still
    ];
  }

-- each part is an item of the binding
pub part_there : (parts : List Part) (items : List Item) (i : ℕ) (part : Part) →
    map item_of parts ≡ items → i < length parts → part ≡ get_or parts i part →
    Contains items (item_of part)
part_there parts items i part are low at = subst (λ xs. Contains xs (item_of part)) are
    (contained_mapped item_of parts part (i, low, sym at))

-- an answer to one that was tried
pub tried_is_later : {E : Type 0} (system : System) (b : Binding) (old : Grown) (item : Item)
    (new : Grown) (result : Result Bool E) →
    IfOk result (λ yes. BringsItem system b old item new yes) →
    IfOk result (λ yes. IsFollowed system b new) → OnOk result (IsLater system b old new)
tried_is_later system b old item new (Ok answer) brings followed =
    later_by system b old item new answer followed brings
tried_is_later system b old item new (Err e) brings followed = tt
