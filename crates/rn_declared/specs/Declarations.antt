-- Kinds and initial tokens: what is broken where places, variables and channels are declared.
use Rattle.std.specs.Prelude.{ℕ, Bool, true, false, ◌&&◌, not, List, [], ◌∷◌, ◌++◌, map, flat_map}
use Rattle.std.specs.Prelude.{Option, Some, None, is_some, unwrap_or, slice_get, nat_le, nat_abs}
use Rattle.std.specs.Option.{option_and_then}
use Rattle.std.specs.List.{list_all}
use Rattle.rn_notation.specs.declared.token.Spot.{Spot}
use Rattle.rn_net.specs.declared.kinds.PKind.{PKind, fold-PKind}
use Rattle.rn_net.specs.declared.kinds.PKindForm.TheOpen as K
use Rattle.rn_net.specs.declared.constants.PConst.{PConst, fold-PConst}
use Rattle.rn_net.specs.declared.constants.PConstForm.TheOpen as C
use Rattle.rn_net.specs.declared.plain.PPlace.{PPlace}
use Rattle.rn_net.specs.declared.plain.PMax.{PMax}
use Rattle.rn_model.specs.Limits.{most_parts, most_initial, greatest_capacity}
use Rattle.rn_declared.specs.declared.fault.Rule.TheVariants as Rule
use Rattle.rn_declared.specs.declared.fault.Fault.{Fault}
use Rattle.rn_declared.specs.declared.pattern.Pattern.{Pattern, out-Pattern}
use Rattle.rn_declared.specs.declared.pattern.Pattern.TheOpen as P
use Rattle.rn_declared.specs.Faults.{broken_if, past, past_limit}
use Rattle.rn_declared.specs.Patterns.{pattern_of}
use Rattle.rn_declared.specs.Names.{number_among}

-- a part of a kind or of a constant as the rules see it: its spot and what is broken in it
pub record Part : Type 0 where
  pub spot : Spot
  pub faults : List Fault

-- what is broken in the parts of a tuple, of which there aren't too many
abbrev pub parts_faults : List Part → List Fault
parts_faults parts =
    flat_map (λ part. part.faults) parts ++ past_limit most_parts (map (λ part. part.spot) parts)

-- what is broken in one kind, with what is in its parts
abbrev pub kind_form_faults : K.PKindForm-F (List Fault) Part → List Fault
kind_form_faults (K.Tuple parts) = parts_faults parts
kind_form_faults (K.List part) = part.faults
kind_form_faults _ = []

-- a kind as the rules see it
abbrev pub kind_part : PKind → Part
kind_part =
    fold-PKind (List Fault) Part kind_form_faults
    (λ kind. record { spot = kind.spot; faults = kind.form })

-- Tuple kinds don't have too many parts.
abbrev pub kind_faults : PKind → List Fault
kind_faults kind = (kind_part kind).faults

-- what is broken in one constant, with what is in its parts
abbrev pub const_form_faults : C.PConstForm-F (List Fault) Part → List Fault
const_form_faults (C.Tuple parts) = parts_faults parts
const_form_faults (C.List parts) = flat_map (λ part. part.faults) parts
const_form_faults _ = []

-- a constant as the rules see it
abbrev pub const_part : PConst → Part
const_part =
    fold-PConst (List Fault) Part const_form_faults
    (λ const. record { spot = const.spot; faults = const.form })

-- each test at the pattern at its index, where there are as many of both
abbrev pub all_fit : List (Pattern → Bool) → List Pattern → Bool
all_fit [] [] = true
all_fit (test ∷ tests) (pattern ∷ patterns) = test pattern && all_fit tests patterns
all_fit _ _ = false

-- one constant at a kind, which is given by its pattern, with a test in place of each part
abbrev pub fits_form : C.PConstForm-F (Pattern → Bool) (Pattern → Bool) → P.Pattern-F Pattern → Bool
fits_form (C.Int n) P.Int = true
fits_form (C.Text s) P.Text = true
fits_form (C.Tuple tests) (P.Tuple patterns) = all_fit tests patterns
fits_form (C.List tests) (P.List pattern) = list_all (λ test. test pattern) tests
fits_form _ _ = false

-- whether a constant has the kind of this pattern; `{}` has every kind of lists
abbrev pub fits : PConst → Pattern → Bool
fits =
    fold-PConst (Pattern → Bool) (Pattern → Bool)
    (λ form pattern. fits_form form (out-Pattern pattern)) (λ const. const.form)

-- an initial token has its place's kind, and its tuples don't have too many parts
abbrev pub token_faults : Pattern → PConst → List Fault
token_faults pattern token =
    (const_part token).faults
    ++ broken_if (not (fits token pattern)) Rule.Kinds (const_part token).spot

-- What is broken in the capacity of a place whose initial tokens stand at these spots: it isn't too
-- great, and there aren't more tokens. A number in a text has no sign.
abbrev pub capacity_faults : Option PMax → List Spot → List Fault
capacity_faults None spots = []
capacity_faults (Some max) spots =
    broken_if (not (nat_le (nat_abs max.number) greatest_capacity)) Rule.Limit max.spot
    ++ past Rule.Capacity (nat_abs max.number) spots

-- what is broken in the kind, the initial tokens, of which there aren't too many, and the capacity
-- of a place
abbrev pub place_faults : PPlace → List Fault
place_faults place =
    kind_faults place.kind
    ++ flat_map (token_faults (pattern_of place.kind)) place.initial
    ++ past_limit most_initial (map (λ token. (const_part token).spot) place.initial)
    ++ capacity_faults place.max (map (λ token. (const_part token).spot) place.initial)

-- whether the place that a name declares first has a capacity
abbrev pub has_capacity : List PPlace → List ℕ → Bool
has_capacity places name =
    unwrap_or
    (option_and_then (slice_get (map (λ p. is_some p.max) places))
    (number_among (map (λ p. p.name.text) places) name))
    false
