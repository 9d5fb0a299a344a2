-- What the tables of the code find. It connects the code with the definitions, and states no rule.
use Rattle.rn_model.specs.Limits.{longest_name}
use Rattle.rn_inscript.specs.declared.inscriptions.PName.{PName}
use Rattle.rn_net.specs.declared.plain.PChannel.{PChannel}
use Rattle.rn_declared.specs.declared.fault.Rule.TheVariants as Rule
use Rattle.rn_declared.specs.declared.fault.Fault.{Fault}
use Rattle.rn_declared.specs.Faults.{broken_if}
use Rattle.std.specs.Prelude.{ℕ, Bool, not, nat_le, length, map, ◌++◌, List, Option, Some, None, if◌then◌else◌}
use Rattle.std.specs.Prelude.{false, slice_get, unwrap_or}
use Rattle.std.specs.Option.{option_and_then}
use Rattle.std.specs.Ordering.{nat_cmp}
use Rattle.std.specs.Cmp.Lexicographic.{slice_cmp}
use Rattle.std.specs.BTreeMap.{BTreeMap, get}
use Rattle.rn_declared.specs.declared.pattern.Pattern.{Pattern}
use Rattle.rn_declared.specs.declared.table.NameTable.{NameTable}
use Rattle.rn_declared.specs.declared.table.Declared.{Declared}
use Rattle.rn_declared.specs.declared.table.DeclaredPlaces.{DeclaredPlaces}
use Rattle.rn_declared.specs.declared.channels.DeclaredChannels.{DeclaredChannels}
use Rattle.rn_declared.specs.Declarations.{kind_part, parts_faults}
use Rattle.rn_declared.specs.Names.{same_name}

-- the number that a table finds for a name
abbrev pub found_in : NameTable → List ℕ → Option ℕ
found_in table name = get (slice_cmp nat_cmp) table.numbers name

-- a number that was found, or else another where it is the same name
abbrev pub or_number : Option ℕ → Bool → ℕ → Option ℕ
or_number (Some n) same number = Some n
or_number None same number = if same then Some number else None

-- what is found once a name is declared under a number
abbrev pub with_name : (List ℕ → Option ℕ) → List ℕ → ℕ → List ℕ → Option ℕ
with_name found name number other = or_number (found other) (same_name name other) number

-- what is reported where a name is declared that was declared before or not
abbrev pub name_told : Bool → PName → List Fault
name_told again name =
    broken_if (not (nat_le (length name.text) longest_name)) Rule.Limit name.spot
    ++ broken_if again Rule.Once name.spot

-- the pattern that is found for a name
abbrev pub pattern_in : Declared → List ℕ → Option Pattern
pattern_in declared name = option_and_then (slice_get declared.patterns) (found_in declared.table name)

-- whether the place that was found has a capacity, where each has one or not
abbrev pub capped_by : List Bool → Option ℕ → Bool
capped_by capped found = unwrap_or (option_and_then (slice_get capped) found) false

-- whether the place that is found for a name has a capacity
abbrev pub capped_in : DeclaredPlaces → List ℕ → Bool
capped_in places name = capped_by places.capped (found_in places.declared.table name)

-- the number that the tables find for a channel of a name with so many arguments
abbrev pub number_in_tables : BTreeMap ℕ NameTable → List ℕ → ℕ → Option ℕ
number_in_tables tables name count =
    option_and_then (λ table. found_in table name) (get nat_cmp tables count)

-- what is reported where a channel is declared that was declared before or not
abbrev pub channel_told : Bool → PChannel → List Fault
channel_told again channel =
    broken_if (not (nat_le (length channel.name.text) longest_name)) Rule.Limit channel.name.spot
    ++ broken_if again Rule.Once channel.name.spot
    ++ parts_faults (map kind_part channel.kinds)

-- the patterns of the arguments of the channel that is found for a name and a number of arguments
abbrev pub channel_in : DeclaredChannels → List ℕ → ℕ → Option (List Pattern)
channel_in channels name count =
    option_and_then (slice_get channels.patterns)
    (number_in_tables channels.tables name count)
