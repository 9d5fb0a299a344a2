-- What the tables of the code find. It connects the code with the definitions, and states no rule.
use Rattle.std.specs.Prelude.{◌≡◌, ℕ, Bool, not, nat_le, length, ◌++◌, List, Option, Some, None}
use Rattle.std.specs.Prelude.{if◌then◌else◌}
use Rattle.std.specs.Ordering.{nat_cmp}
use Rattle.std.specs.Cmp.Lexicographic.{slice_cmp}
use Rattle.std.specs.BTreeMap.{get}
use Rattle.rn_model.specs.Limits.{longest_name}
use Rattle.rn_reading.specs.declared.named.Named.{Named}
use Rattle.rn_pt.specs.declared.table.NameTable.{NameTable}
use Rattle.rn_pt.specs.declared.fault.Rule.TheVariants as Rule
use Rattle.rn_pt.specs.declared.fault.Broken.{Broken}
use Rattle.rn_pt.specs.Faults.{broken_if}
use Rattle.rn_pt.specs.Rules.{same_name, number_among}

-- the number that a table finds for a name
abbrev pub found_in : NameTable → List ℕ → Option ℕ
found_in table name = get (slice_cmp nat_cmp) table.numbers name

-- the table finds the numbers of these names
abbrev pub FindsAmong : List (List ℕ) → NameTable → Type 0
FindsAmong names table = (name : List ℕ) → found_in table name ≡ number_among names name

-- a number that was found, or else another where it is the same name
abbrev pub or_number : Option ℕ → Bool → ℕ → Option ℕ
or_number (Some n) same number = Some n
or_number None same number = if same then Some number else None

-- what is found once a name is declared under a number
abbrev pub with_name : (List ℕ → Option ℕ) → List ℕ → ℕ → List ℕ → Option ℕ
with_name found name number other = or_number (found other) (same_name name other) number

-- what is noted where a name is declared that was declared before or not
abbrev pub name_noted : Bool → Named → List Broken
name_noted again name =
    broken_if (not (nat_le (length name.text) longest_name)) Rule.Limit name.spot
    ++ broken_if again Rule.Once name.spot
