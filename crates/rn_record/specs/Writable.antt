-- Which runs have a text: what they name is there.
use Rattle.std.specs.Prelude.{ℕ, ◌+◌, ◌<◌, ◌^◌, List, [], ◌∷◌, length, All, ⊤}
use Rattle.rn_value.specs.Names.{AreNamed}
use Rattle.rn_model.specs.declared.system.System.{System}
use Rattle.rn_model.specs.declared.binding.Binding.{Binding}
use Rattle.rn_model.specs.declared.log.Reason.{Reason}
use Rattle.rn_model.specs.declared.log.Reason.TheVariants.{Fault}
use Rattle.rn_model.specs.declared.log.Entry.{Entry}
use Rattle.rn_model.specs.declared.log.Entry.TheVariants.{Fire, End}
use Rattle.rn_model.specs.declared.log.Told.{Told}
use Rattle.rn_model.specs.Firing.{creations_of}
use Rattle.rn_model.specs.NodeText.{IsWritable}
use Rattle.rn_record.specs.RecordText.{names_after, numbered_nodes, names_past, names_at_end}
use Rattle.rn_record.specs.RecordText.{first_names}

-- The numbers of the instances that the binding makes stay below 2^32, and under them each node can
-- be written.
pub record HasLines (system : System) (names : List (List ℕ)) (b : Binding) : Type 0 where
  pub low : length names + 1 + length (creations_of system b) < 2 ^ 32
  pub nodes : All (IsWritable system (names_after system names b)) (numbered_nodes system names b)

-- the binding of a fault can be written
abbrev pub HasEnd : System → List (List ℕ) → Reason → Type 0
HasEnd system names (Fault cause b) = HasLines system names b
HasEnd system names _ = ⊤

-- an entry can be written: its binding and the values that it printed
abbrev pub HasEntry : System → List (List ℕ) → Entry → Type 0
HasEntry system names (Fire worker b outs) =
    HasLines system names b × All (AreNamed (names_after system names b)) outs
HasEntry system names (End reason) = HasEnd system names reason

-- each of these entries can be written after those before it
abbrev pub HaveEntries : System → List (List ℕ) → List Entry → Type 0
HaveEntries system names [] = ⊤
HaveEntries system names (entry ∷ entries) =
    HasEntry system names entry × HaveEntries system (names_past system names entry) entries

-- A run can be written: its entries, and marks whose instances its firings made.
pub record HasText (system : System) (told : Told) : Type 0 where
  pub entries : HaveEntries system first_names told.entries
  pub marks : All (λ line.
      All (AreNamed (names_at_end system first_names told.entries)) line.values) told.marks
