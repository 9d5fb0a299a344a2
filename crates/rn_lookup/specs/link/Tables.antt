-- What the tables of names hold. It connects the code with the definitions, and states no rule.
use Rattle.std.specs.Prelude.{◌≡◌, ◌<◌, ◌^◌, ℕ, List, [], ◌∷◌, length, Option, ⊤}
use Rattle.std.specs.BTreeMap.{get}
use Rattle.std.specs.Ordering.{nat_cmp}
use Rattle.std.specs.Cmp.Lexicographic.{slice_cmp}
use Rattle.rn_model.specs.declared.system.System.{System}
use Rattle.rn_model.specs.declared.system.Net.{Net}
use Rattle.rn_lookup.specs.declared.tables.NameTable.{NameTable}
use Rattle.rn_lookup.specs.declared.directory.OwnNames.{OwnNames}
use Rattle.rn_lookup.specs.declared.directory.Directory.{Directory}
use Rattle.rn_lookup.specs.Found.{net_named, transition_named, place_named}

-- the number that a table has for a name
abbrev pub found_in : NameTable → List ℕ → Option ℕ
found_in table name = get (slice_cmp nat_cmp) table.numbers name

-- a net's transitions and places can be counted in 32 bits
pub record AreFew (net : Net) : Type 0 where
  pub transitions : length net.transitions < 2 ^ 32
  pub places : length net.places < 2 ^ 32

-- the tables of a net
pub record IsOwnOf (net : Net) (own : OwnNames) : Type 0 where
  pub transitions : (word : List ℕ) → found_in own.transitions word ≡ transition_named net word
  pub places : (word : List ℕ) → found_in own.places word ≡ place_named net word

-- those of each net, in order
abbrev pub AreOwnOf : List Net → List OwnNames → Type 0
AreOwnOf [] [] = ⊤
AreOwnOf (net ∷ nets) (own ∷ others) = IsOwnOf net own × AreOwnOf nets others
AreOwnOf _ _ = ⊥

-- the directory has the names of the system
pub record IsDirectoryOf (system : System) (directory : Directory) : Type 0 where
  pub nets : (word : List ℕ) → found_in directory.nets word ≡ net_named system word
  pub own : AreOwnOf system.nets directory.own.items
