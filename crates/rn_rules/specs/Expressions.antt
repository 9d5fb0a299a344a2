-- Expressions: which kinds they have, and what is broken in them.
use Rattle.std.specs.Prelude.{ℕ, Bool, true, false, ◌&&◌, not, List, [], ◌∷◌, ◌++◌, map}
use Rattle.std.specs.Prelude.{Option, is_none, unwrap_or, flat_map}
use Rattle.rn_notation.specs.declared.token.Spot.{Spot}
use Rattle.rn_inscript.specs.declared.exprs.PExpr.{PExpr, fold-PExpr}
use Rattle.rn_inscript.specs.declared.exprs.PForm.TheOpen as F
use Rattle.rn_model.specs.Limits.{most_parts}
use Rattle.rn_declared.specs.declared.fault.Rule.TheVariants as Rule
use Rattle.rn_declared.specs.declared.fault.Fault.{Fault}
use Rattle.rn_declared.specs.declared.pattern.Pattern.{Pattern}
use Rattle.rn_declared.specs.declared.pattern.Pattern.TheVariants as Pattern
use Rattle.rn_declared.specs.Faults.{broken_if, past_limit}
use Rattle.rn_declared.specs.Patterns.{share, both_of}

-- Where an expression stands: the pattern of each variable that is declared, by its name; whether a
-- name may stand there, which only a misplaced action variable may not; and whether `step()` may.
pub record Where : Type 0 where
  pub pattern_of_var : List ℕ → Option Pattern
  pub may_stand : List ℕ → Bool
  pub step_may : Bool

-- an expression as the rules see it: its spot, what is broken in it, and the pattern of its kinds
pub record Seen : Type 0 where
  pub spot : Spot
  pub faults : List Fault
  pub pattern : Pattern

-- whether nothing is broken
abbrev pub is_whole : List Fault → Bool
is_whole [] = true
is_whole (fault ∷ faults) = false

-- Two expressions that must share a kind, and the spot that is reported where they don't. An
-- expression in which something is broken has no kind, and is compared with nothing.
abbrev pub apart : Seen → Seen → Spot → List Fault
apart a b spot =
    broken_if (is_whole a.faults && is_whole b.faults && not (share a.pattern b.pattern))
    Rule.Kinds spot

-- an expression in which nothing is broken
abbrev pub whole : Spot → Pattern → Seen
whole spot pattern = record { spot = spot; faults = []; pattern = pattern }

-- an expression that must have the kind of this pattern, at its spot
abbrev pub misfit : Seen → Pattern → List Fault
misfit a pattern = apart (whole a.spot pattern) a a.spot

-- a variable is declared, and an action variable stands only where it may
abbrev pub variable_faults : Where → List ℕ → Spot → List Fault
variable_faults place name spot =
    broken_if (is_none (place.pattern_of_var name)) Rule.Known spot
    ++ broken_if (not (place.may_stand name)) Rule.Actions spot

-- the elements of a list so far, whose kinds have this pattern in common, and one more
unfoldable pub with_element : Seen → Seen → Seen
with_element before e = record {
  spot = before.spot;
  faults = before.faults ++ (e.faults ++ apart before e e.spot);
  pattern = both_of before.pattern e.pattern;
}

-- the elements of a list so far, and these
unfoldable pub with_elements : Seen → List Seen → Seen
with_elements before [] = before
with_elements before (e ∷ es) = with_elements (with_element before e) es

-- the list of some elements
unfoldable pub listed : Seen → Seen
listed elements = record {
  spot = elements.spot;
  faults = elements.faults;
  pattern = Pattern.List elements.pattern;
}

-- the tuple of these parts, of which there aren't too many
unfoldable pub tuple_of : Spot → List Seen → Seen
tuple_of spot parts = record {
  spot = spot;
  faults = flat_map (λ e. e.faults) parts ++ past_limit most_parts (map (λ e. e.spot) parts);
  pattern = Pattern.Tuple (map (λ e. e.pattern) parts);
}

-- an operand is a whole number
unfoldable pub operand_faults : Seen → List Fault
operand_faults a = a.faults ++ misfit a Pattern.Int

-- both operands of an operator are
unfoldable pub operands_faults : Seen → Seen → List Fault
operands_faults a b = operand_faults a ++ operand_faults b

-- One expression at its spot, with what its parts are. Operators take whole numbers and give one. A
-- list has the kinds that its elements share, and its tail is a list of them too.
abbrev pub seen_form : F.PForm-F (Spot → Where → Seen) (Where → Seen) → Spot → Where → Seen
seen_form (F.Int n) spot place = whole spot Pattern.Int
seen_form (F.Text s) spot place = whole spot Pattern.Text
seen_form (F.Name name) spot place = record {
  spot = spot;
  faults = variable_faults place name spot;
  pattern = unwrap_or (place.pattern_of_var name) Pattern.Any;
}
seen_form F.This spot place = whole spot Pattern.Net
seen_form F.Step spot place = record {
  spot = spot;
  faults = broken_if (not place.step_may) Rule.Actions spot;
  pattern = Pattern.Int;
}
seen_form (F.Tuple parts) spot place = tuple_of spot (map (λ part. part place) parts)
seen_form (F.List elements) spot place =
    listed (with_elements (whole spot Pattern.Any) (map (λ e. e place) elements))
seen_form (F.Cons elements tail) spot place =
    with_element (listed (with_elements (whole spot Pattern.Any) (map (λ e. e place) elements)))
    (tail place)
seen_form (F.Neg a) spot place = record {
  spot = spot;
  faults = operand_faults (a place);
  pattern = Pattern.Int;
}
seen_form (F.Op op a b) spot place = record {
  spot = spot;
  faults = operands_faults (a place) (b place);
  pattern = Pattern.Int;
}

-- an expression that stands somewhere, as the rules see it
abbrev pub seen_of : PExpr → Where → Seen
seen_of = fold-PExpr (Spot → Where → Seen) (Where → Seen) seen_form (λ e. e.form e.spot)
