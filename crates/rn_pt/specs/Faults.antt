-- Broken rules, and which of them counts first.
use Rattle.std.specs.Prelude.{◌≡◌, ℕ, Bool, false, ◌&&◌, ◌||◌, nat_lt, nat_eq, List, [], ◌∷◌}
use Rattle.std.specs.Prelude.{Option, Some, None, Contains, slice_get, if◌then◌else◌}
use Rattle.std.specs.Option.{option_map_or}
use Rattle.rn_notation.specs.declared.token.Spot.{Spot}
use Rattle.rn_pt.specs.declared.fault.Rule.{Rule}
use Rattle.rn_pt.specs.declared.fault.Broken.{Broken}
use Rattle.rn_pt.specs.declared.fault.PtFault.{PtFault}
use Rattle.rn_pt.specs.declared.fault.PtFault.TheVariants as Why

-- the number of a rule
abbrev pub number_of : Rule → ℕ
number_of Rule.Known = 2
number_of Rule.Once = 3
number_of Rule.Amount = 4
number_of Rule.Limit = 5

-- how a broken rule is reported
abbrev pub report : Rule → Spot → PtFault
report Rule.Known spot = Why.N2 spot
report Rule.Once spot = Why.N3 spot
report Rule.Amount spot = Why.N4 spot
report Rule.Limit spot = Why.N5 spot

abbrev pub report_of : Broken → PtFault
report_of b = report b.rule b.spot

-- this rule, broken at this spot
abbrev pub broken : Rule → Spot → Broken
broken rule spot = record { rule = rule; spot = spot }

-- the rule, broken at this spot, where it is
abbrev pub broken_if : Bool → Rule → Spot → List Broken
broken_if b rule spot = if b then broken rule spot ∷ [] else []

-- whether one spot stands before another in a text
abbrev pub stands_before : Spot → Spot → Bool
stands_before a b = nat_lt a.line b.line || (nat_eq a.line b.line && nat_lt a.column b.column)

-- whether two spots are the same
abbrev pub same_spot : Spot → Spot → Bool
same_spot a b = nat_eq a.line b.line && nat_eq a.column b.column

-- whether one counts before another: at an earlier spot, or at the same by a lower number
abbrev pub counts_before : Broken → Broken → Bool
counts_before a b =
    stands_before a.spot b.spot
    || (same_spot a.spot b.spot && nat_lt (number_of a.rule) (number_of b.rule))

-- This is among these, and none of them counts before it.
pub record IsFirstOf (all : List Broken) (b : Broken) : Type 0 where
  pub there : Contains all b
  pub first : (other : Broken) → Contains all other → counts_before other b ≡ false

-- the first of one that is known, if any, and of one more
abbrev pub first_with : Option Broken → Broken → Option Broken
first_with None b = Some b
first_with (Some known) b = if counts_before b known then Some b else Some known

-- the first of one that is known, if any, and of these
abbrev pub first_from : Option Broken → List Broken → Option Broken
first_from known [] = known
first_from known (b ∷ more) = first_from (first_with known b) more

-- where there are more than so many, the limit is passed at the first one past it
abbrev pub past_limit : ℕ → List Spot → List Broken
past_limit most spots =
    option_map_or (λ spot. broken Rule.Limit spot ∷ []) (slice_get spots most) []
