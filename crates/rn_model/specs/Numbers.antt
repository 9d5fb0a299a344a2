-- The numbers of creations by the path of their node and their index there.
use Rattle.std.specs.Prelude.{ℕ, ◌≡◌, Bool, ◌&&◌, List, Option, nat_eq}
use Rattle.std.specs.BTreeMap.{get}
use Rattle.std.specs.List.{position_from}
use Rattle.std.specs.Option.{option_map_or}
use Rattle.std.specs.Cmp.Lexicographic.{pointwise}
use Rattle.rn_value.specs.declared.value.InstRef.{InstRef}
use Rattle.rn_value.specs.declared.value.InstRef.TheVariants.{Old, New}
use Rattle.rn_model.specs.declared.numbers.MadeBy.{MadeBy}
use Rattle.rn_model.specs.declared.numbers.Numbers.{Numbers}
use Rattle.rn_model.specs.contracts.numbers.MadeByOrd.TheImpl as order
use Rattle.rn_model.specs.Firing.{Made}

-- what a creation is looked up by
abbrev pub key_of : Made → MadeBy
key_of m = record { path = m.path; index = m.index }

-- whether this creation is the one of that path and index
abbrev pub makes : List ℕ → ℕ → MadeBy → Bool
makes path j m = pointwise nat_eq m.path path && nat_eq m.index j

-- the number that is kept for the creation of a path and index
abbrev pub number_in : Numbers → List ℕ → ℕ → Option ℕ
number_in numbers path j = get order.ghosts.cmp numbers.by (record { path = path; index = j })

-- These are the numbers of creations, of which the first has the number next. Of equal ones the
-- first counts.
abbrev pub AreNumbersOf : List MadeBy → ℕ → Numbers → Type 0
AreNumbersOf made next numbers = (path : List ℕ) (j : ℕ) →
    number_in numbers path j ≡ position_from (makes path j) next made

-- An instance under its number. What has none stays.
abbrev pub numbered_by : Numbers → InstRef → InstRef
numbered_by numbers (Old n) = Old n
numbered_by numbers (New path j) =
    option_map_or (λ n. Old n) (number_in numbers path j) (New path j)
