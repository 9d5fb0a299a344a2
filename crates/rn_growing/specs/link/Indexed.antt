-- Slots and decisions with their keys. It only connects the code's steps to what is promised.
use Rattle.std.specs.Prelude.{ℕ, ◌≡◌, ◌≤◌, ◌+◌, List, Bool, false, ◌&&◌, Some, None}
use Rattle.std.specs.Prelude.{length, map, take, slice_get, get_or, nat_eq}
use Rattle.std.specs.Cmp.Lexicographic.{pointwise}
use Rattle.rn_growing.specs.declared.slot.Slot.{Slot}
use Rattle.rn_growing.specs.declared.slot.Unknown.{Unknown}
use Rattle.rn_growing.specs.link.Layouts.{id_of, same_unknown}
use Rattle.rn_growing.specs.link.Keys.{slot_key}

-- the slot is that of an unknown of the node on a path
abbrev pub is_slot : List ℕ → Unknown → Slot → Bool
is_slot path u slot = same_unknown slot.unknown u && pointwise nat_eq slot.path path

-- each slot has its key, and no two are of one unknown
pub record AreIndexed (slots : List Slot) (keys : List ℕ) : Type 0 where
  pub keyed : keys ≡ map slot_key slots
  pub apart : (i : ℕ) (slot : Slot) → slice_get slots i ≡ Some slot →
      id_of (take i slots) slot.path slot.unknown ≡ None

-- From this many on none passes a test. What is looked at next has the key of what does.
pub record IsSought {A : Type 0} (keys : List ℕ) (key : ℕ) (is : A → Bool) (xs : List A)
    (left : ℕ) : Type 0 where
  pub within : left ≤ length xs
  pub so : (i : ℕ) → i + 1 ≡ left → get_or keys i 0 ≡ key
  pub none : (i : ℕ) (x : A) → left ≤ i → slice_get xs i ≡ Some x → is x ≡ false
