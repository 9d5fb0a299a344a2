-- A store with the ids of its unknowns, and what a step does to it. It only connects the code's
-- steps to what is promised.
use Rattle.std.specs.Prelude.{ℕ, ◌≡◌, ◌<◌, ◌↔◌, Bool, true, false, List, Option, Some, None}
use Rattle.std.specs.Prelude.{length, take}
use Rattle.rn_value.specs.declared.value.Value.{Value}
use Rattle.rn_term.specs.Stores.{State}
use Rattle.rn_term.specs.Assignments.{Satisfies}
use Rattle.rn_term.specs.Undoing.{LeavesEarlier}
use Rattle.rn_model.specs.Lists.{HaveOneValue}
use Rattle.rn_model.specs.Derivation.{Assignment}
use Rattle.rn_growing.specs.declared.slot.Slot.{Slot}
use Rattle.rn_growing.specs.declared.slot.Unknown.{Unknown}
use Rattle.rn_growing.specs.link.Layouts.{id_of, asked, IsLaidIn, GivenBy, IsReadAs}

-- a store, and slots that give its ids of unknowns
pub record LaidState : Type 0 where
  pub store : State
  pub slots : List Slot

-- the assignments that it gives
abbrev pub GivesAssignment : LaidState → Assignment → Type 0
GivesAssignment laid a = GivenBy laid.store (id_of laid.slots) a

-- it grew: what it was at earlier marks is left as it was
pub record Grows (old new : LaidState) : Type 0 where
  pub store : LeavesEarlier old.store new.store
  pub slots : take (length old.slots) new.slots ≡ old.slots

-- its assignments go back to those of what it was
abbrev pub GoesBack : LaidState → LaidState → Type 0
GoesBack old new = (vs : List Value) → Satisfies new.store vs →
    Satisfies old.store (take (length old.store.terms) vs)

-- after an equation came in, the assignments given are those from before that satisfy it
pub record Adds (old : LaidState) (equation : Assignment → Type 0) (new : LaidState) : Type 0 where
  pub back : GoesBack old new
  pub exact : (a : Assignment) → GivesAssignment new a ↔ (GivesAssignment old a × equation a)

-- A term was built: it is read at an id, and the assignments given are those from before under
-- which it has a value.
pub record Builds (old : LaidState) (term : Assignment → Option Value) (new : LaidState) (id : ℕ)
    : Type 0 where
  pub within : id < length new.store.terms
  pub laid : IsLaidIn (id_of new.slots) new.store
  pub reads : IsReadAs new.store (id_of new.slots) term id
  pub adds : Adds old (λ a. (v : Value) × (term a ≡ Some v)) new

-- no assignment given gives the term a value
abbrev pub NeverHas : LaidState → (Assignment → Option Value) → Type 0
NeverHas laid term = (a : Assignment) → GivesAssignment laid a → term a ≡ None

-- The answer to an equation of two ids: it came in, or no assignment given satisfies it.
abbrev pub Equates : LaidState → ℕ → ℕ → LaidState → Bool → Type 0
Equates old p q new true = (first second : Assignment → Option Value) →
    IsReadAs old.store (id_of old.slots) first p →
    IsReadAs old.store (id_of old.slots) second q →
    Adds old (λ a. HaveOneValue (first a) (second a)) new
Equates old p q new false = (first second : Assignment → Option Value) →
    IsReadAs old.store (id_of old.slots) first p →
    IsReadAs old.store (id_of old.slots) second q →
    (a : Assignment) → GivesAssignment old a → ¬ HaveOneValue (first a) (second a)

-- all assignments given give an unknown this value
abbrev pub IsGiven : LaidState → List ℕ → Unknown → Value → Type 0
IsGiven laid path u v = (a : Assignment) → GivesAssignment laid a → asked a path u ≡ v
