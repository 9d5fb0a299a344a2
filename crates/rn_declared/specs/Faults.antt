-- Broken rules, and which of them counts first.
use Rattle.std.specs.Prelude.{◌≡◌, ℕ, Bool, false, ◌&&◌, ◌||◌, nat_lt, nat_eq, List, [], ◌∷◌}
use Rattle.std.specs.Prelude.{Option, Some, None, Contains, slice_get, if◌then◌else◌}
use Rattle.std.specs.Option.{option_map_or}
use Rattle.rn_notation.specs.declared.token.Spot.{Spot}
use Rattle.rn_declared.specs.declared.fault.Rule.{Rule}
use Rattle.rn_declared.specs.declared.fault.Fault.{Fault}
use Rattle.rn_declared.specs.declared.fault.CheckFault.{CheckFault}
use Rattle.rn_declared.specs.declared.fault.CheckFault.TheVariants as C

-- the number of a rule
abbrev pub number_of : Rule → ℕ
number_of Rule.Known = 1
number_of Rule.Once = 2
number_of Rule.Main = 3
number_of Rule.Kinds = 4
number_of Rule.Uplink = 5
number_of Rule.Actions = 6
number_of Rule.Inscription = 7
number_of Rule.Channel = 8
number_of Rule.Limit = 9
number_of Rule.Creation = 10
number_of Rule.Comparison = 11
number_of Rule.Capacity = 12
number_of Rule.Counted = 13

-- how the checker reports a broken rule
abbrev pub report_of : Rule → Spot → CheckFault
report_of Rule.Known spot = C.C1 spot
report_of Rule.Once spot = C.C2 spot
report_of Rule.Main spot = C.C3 spot
report_of Rule.Kinds spot = C.C4 spot
report_of Rule.Uplink spot = C.C5 spot
report_of Rule.Actions spot = C.C6 spot
report_of Rule.Inscription spot = C.C7 spot
report_of Rule.Channel spot = C.C8 spot
report_of Rule.Limit spot = C.C9 spot
report_of Rule.Creation spot = C.C10 spot
report_of Rule.Comparison spot = C.C11 spot
report_of Rule.Capacity spot = C.C12 spot
report_of Rule.Counted spot = C.C13 spot

-- this rule, broken at this spot
abbrev pub broken : Rule → Spot → Fault
broken rule spot = record { rule = rule; spot = spot }

-- the rule, broken at this spot, where it is
abbrev pub broken_if : Bool → Rule → Spot → List Fault
broken_if b rule spot = if b then broken rule spot ∷ [] else []

-- whether one spot stands before another in a text
abbrev pub stands_before : Spot → Spot → Bool
stands_before a b = nat_lt a.line b.line || (nat_eq a.line b.line && nat_lt a.column b.column)

-- whether two spots are the same
abbrev pub same_spot : Spot → Spot → Bool
same_spot a b = nat_eq a.line b.line && nat_eq a.column b.column

-- whether one fault counts before another: at an earlier spot, or at the same by a lower number
abbrev pub counts_before : Fault → Fault → Bool
counts_before a b =
    stands_before a.spot b.spot
    || (same_spot a.spot b.spot && nat_lt (number_of a.rule) (number_of b.rule))

-- This fault is among these, and none of them counts before it.
pub record IsFirstOf (faults : List Fault) (fault : Fault) : Type 0 where
  pub there : Contains faults fault
  pub first : (other : Fault) → Contains faults other → counts_before other fault ≡ false

-- the first of a fault that is known, if any, and of one more
abbrev pub first_with : Option Fault → Fault → Option Fault
first_with None fault = Some fault
first_with (Some known) fault = if counts_before fault known then Some fault else Some known

-- the first of a fault that is known, if any, and of these
abbrev pub first_from : Option Fault → List Fault → Option Fault
first_from known [] = known
first_from known (fault ∷ faults) = first_from (first_with known fault) faults

-- where there are more than so many, this rule is broken at the first one past them
abbrev pub past : Rule → ℕ → List Spot → List Fault
past rule most spots = option_map_or (λ spot. broken rule spot ∷ []) (slice_get spots most) []

-- where there are more than so many, the limit is passed at the first one past it
abbrev pub past_limit : ℕ → List Spot → List Fault
past_limit most spots = past Rule.Limit most spots
