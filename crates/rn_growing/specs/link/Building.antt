-- What is built of an expression that stands at a site of a node. But for the values of parts it
-- only connects the code's steps to what is promised.
use Rattle.std.specs.Prelude.{ℕ, ◌≡◌, ◌≢◌, ◌<◌, ◌↔◌, ⊤, List, [], ◌∷◌, ◌++◌, Bool, Option, Some}
use Rattle.std.specs.Prelude.{None, map, length, All}
use Rattle.rn_value.specs.declared.value.Value.{Value}
use Rattle.rn_value.specs.declared.value.Value.TheVariants as Value
use Rattle.rn_term.specs.Assignments.{Satisfies, value_at}
use Rattle.rn_model.specs.declared.expr.Expr.{Expr}
use Rattle.rn_model.specs.Derivation.{Assignment, Unknowns, unknowns_within, term_value}
use Rattle.rn_model.specs.Derivation.{term_values}
use Rattle.rn_model.specs.Derivation as D
use Rattle.rn_growing.specs.declared.decision.Head.{Head}
use Rattle.rn_growing.specs.link.Layouts.{id_of, IsLaidIn, AreRead, IsReadAs}
use Rattle.rn_growing.specs.link.Grown.{BringsIn}
use Rattle.rn_growing.specs.link.Laid.{LaidState, GivesAssignment, Adds, GoesBack, Builds, NeverHas}

-- the unknowns, seen from the part at the end of a way
abbrev pub along : List ℕ → Unknowns → Unknowns
along [] u = u
along (i ∷ way) u = along way (unknowns_within i u)

abbrev pub unknowns_at : Assignment → Head → D.Site → Unknowns
unknowns_at a head site =
    record { this = head.inst; var = a.var head.path; hole = a.hole head.path site }

-- the value of a part of an expression, as a term over the unknowns
abbrev pub part_at : Assignment → Head → D.Site → List ℕ → Expr → Option Value
part_at a head site way e = term_value e (along way (unknowns_at a head site))

-- the values of parts side by side, of which the first stands at place i
abbrev pub parts_at : Assignment → Head → D.Site → List ℕ → ℕ → List Expr → Option (List Value)
parts_at a head site way i es =
    term_values i (map term_value es) (along way (unknowns_at a head site))

-- A term was built, or has no value under any assignment given.
abbrev pub BuildsOr : LaidState → (Assignment → Option Value) → LaidState → Option ℕ → Type 0
BuildsOr old term new (Some id) = Builds old term new id
BuildsOr old term new None = NeverHas old term

-- Terms were built side by side.
pub record BuildsAll (old : LaidState) (terms : Assignment → Option (List Value)) (new : LaidState)
    (ids : List ℕ) : Type 0 where
  pub within : All (λ id. id < length new.store.terms) ids
  pub laid : IsLaidIn (id_of new.slots) new.store
  pub reads : (a : Assignment) (vs : List Value) → Satisfies new.store vs →
      AreRead (id_of new.slots) a vs → terms a ≡ Some (map (value_at vs) ids)
  pub adds : Adds old (λ a. (vs : List Value) × (terms a ≡ Some vs)) new

abbrev pub BuildsAllOr :
    LaidState → (Assignment → Option (List Value)) → LaidState → Option (List ℕ) → Type 0
BuildsAllOr old terms new (Some ids) = BuildsAll old terms new ids
BuildsAllOr old terms new None = (a : Assignment) → GivesAssignment old a → terms a ≡ None

-- One value was made of others, under each assignment.
pub record IsMade (old : LaidState) (make : List Value → Value) (ids : List ℕ) (new : LaidState)
    (id : ℕ) : Type 0 where
  pub within : id < length new.store.terms
  pub laid : IsLaidIn (id_of new.slots) new.store
  pub value : (vs : List Value) → Satisfies new.store vs →
      value_at vs id ≡ make (map (value_at vs) ids)
  pub adds : Adds old (λ a. ⊤) new

-- A list was made of elements before a tail, under the assignments that give the tail a list.
pub record IsPutBefore (old : LaidState) (ids : List ℕ) (tail : ℕ) (new : LaidState) (id : ℕ)
    : Type 0 where
  pub within : id < length new.store.terms
  pub laid : IsLaidIn (id_of new.slots) new.store
  pub value : (vs : List Value) → Satisfies new.store vs → (others : List Value) ×
      (value_at vs tail ≡ Value.List others) ×
      (value_at vs id ≡ Value.List (map (value_at vs) ids ++ others))
  pub back : GoesBack old new
  pub exact : (a : Assignment) (rest : Assignment → Option Value) →
      IsReadAs old.store (id_of old.slots) rest tail →
      GivesAssignment new a ↔ (GivesAssignment old a × ((others : List Value) × (rest a ≡ Some (Value.List others))))

-- the answer: a list was made, or no assignment given gives the tail a list
abbrev pub PutsBefore : LaidState → List ℕ → ℕ → LaidState → Option ℕ → Type 0
PutsBefore old ids tail new (Some id) = IsPutBefore old ids tail new id
PutsBefore old ids tail new None = (a : Assignment) (rest : Assignment → Option Value) →
    IsReadAs old.store (id_of old.slots) rest tail → GivesAssignment old a →
    (others : List Value) → rest a ≢ Some (Value.List others)

-- the answer to an id that gets a value: each term that is read there has it, or never does
abbrev pub GetsValue : LaidState → ℕ → Value → LaidState → Bool → Type 0
GetsValue old id v new told = (term : Assignment → Option Value) →
    IsReadAs old.store (id_of old.slots) term id → BringsIn old (λ a. term a ≡ Some v) new told
