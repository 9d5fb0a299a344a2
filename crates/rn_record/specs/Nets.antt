-- The nets of the instances of a run, in the order of their numbers.
use Rattle.std.specs.Prelude.{ℕ, ◌≡◌, ◌≤◌, ◌+◌, List, [], ◌∷◌, length, take, drop, flat_map, ⊤}
use Rattle.rn_model.specs.declared.system.System.{System}
use Rattle.rn_model.specs.declared.log.Entry.{Entry}
use Rattle.rn_model.specs.declared.log.Entry.TheVariants.{Fire, End}
use Rattle.rn_spell.specs.Made.{made_in, nets_made, names_of_nets}
use Rattle.rn_record.specs.RecordText.{first_names}
use Rattle.rn_record.specs.Writable.{HasEntry, HaveEntries}
use Rattle.rn_record.specs.Named.{names_with}

-- the nets of the instances that an entry makes: an end makes none
abbrev pub fired_in : System → Entry → List ℕ
fired_in system (Fire worker b outs) = nets_made system b
fired_in system (End reason) = []

-- The nets of the instances of a run: of the one at the start, and of those that entries make.
abbrev pub nets_of_run : System → ℕ → List Entry → List ℕ
nets_of_run system first entries = first ∷ flat_map (made_in system) entries

-- These are the nets of the instances of a run, where the first is named `main`.
pub record HasNets (system : System) (entries : List Entry) (nets : List ℕ) : Type 0 where
  pub first : ℕ
  pub main : names_of_nets system (first ∷ []) ≡ first_names
  pub all : nets ≡ nets_of_run system first entries

-- an entry is a firing
abbrev pub IsFiring : Entry → Type 0
IsFiring (Fire worker b outs) = ⊤
IsFiring (End reason) = ⊥

-- each entry but the last is a firing
abbrev pub EndsLast : List Entry → Type 0
EndsLast [] = ⊤
EndsLast (entry ∷ []) = ⊤
EndsLast (entry ∷ next ∷ entries) = IsFiring entry × EndsLast (next ∷ entries)

-- the names of the first so many instances, by their nets
abbrev pub first_of : System → List ℕ → ℕ → List (List ℕ)
first_of system nets before = names_of_nets system (take before nets)

-- An entry after so many instances can be written by these nets: those that it makes come next.
pub record EntryFits (system : System) (nets : List ℕ) (before : ℕ) (entry : Entry) : Type 0 where
  pub within : before + length (made_in system entry) ≤ length nets
  pub named : first_of system nets (before + length (made_in system entry))
      ≡ names_with system (first_of system nets before) entry
  pub fits : HasEntry system (first_of system nets before) entry

-- Entries after so many instances can be written by these nets: those that they make come next, and
-- only the last is an end.
pub record EntriesFit (system : System) (nets : List ℕ) (before : ℕ) (entries : List Entry)
    : Type 0 where
  pub within : before ≤ length nets
  pub made : take (length (flat_map (made_in system) entries)) (drop before nets)
      ≡ flat_map (made_in system) entries
  pub fit : HaveEntries system (first_of system nets before) entries
  pub ends : EndsLast entries
