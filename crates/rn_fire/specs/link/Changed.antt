-- What a list of changed instances gets. It only connects the code to the definitions.
use Rattle.std.specs.Prelude.{ℕ, ◌↔◌, ◌⊎◌, List, Contains}
use Rattle.rn_model.specs.declared.log.Entry.{Entry}
use Rattle.rn_model.specs.declared.log.Entry.TheVariants.{Fire, End}
use Rattle.rn_reach.specs.Changes.{HasNodeOn}

-- a list gets just those numbers of which this holds
abbrev pub Gets : (ℕ → Type 0) → List ℕ → List ℕ → Type 0
Gets Has before after = (n : ℕ) → Contains after n ↔ (Contains before n ⊎ Has n)

-- this holds of one of these
abbrev pub OneHas : {X : Type 0} → (X → ℕ → Type 0) → List X → ℕ → Type 0
OneHas {X} Has xs n = (x : X) × Contains xs x × Has x n

-- the entry is a firing, and a node of it stands on an existing instance
abbrev pub EntryHasNodeOn : Entry → ℕ → Type 0
EntryHasNodeOn (Fire worker b outs) n = HasNodeOn b n
EntryHasNodeOn (End reason) n = ⊥
