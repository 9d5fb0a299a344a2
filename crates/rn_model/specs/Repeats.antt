-- Values in a row, of which equal neighbours stand once, with their number.
use Rattle.std.specs.Prelude.{ℕ, suc, ◌+◌, ◌≡◌, ◌<◌, ⊤, List, [], ◌∷◌, replicate, flat_map}
use Rattle.std.specs.Prelude.{if◌then◌else◌}
use Rattle.rn_value.specs.declared.value.Value.{Value}
use Rattle.rn_model.specs.declared.repeats.Repeat.{Repeat}
use Rattle.rn_model.specs.Lists.{same_value}

-- a value as often as it stands there
abbrev pub times : Repeat → List Value
times r = replicate r.count r.value

-- the values in a row
abbrev pub values_of : List Repeat → List Value
values_of = flat_map times

-- one more value before others: it is counted with the first where that is the same
abbrev pub with_first : Value → List Repeat → List Repeat
with_first v [] = record { value = v; count = 1 } ∷ []
with_first v (r ∷ rs) =
    if same_value v r.value then record { value = v; count = suc r.count } ∷ rs
    else record { value = v; count = 1 } ∷ r ∷ rs

-- values in a row, equal neighbours once, with their number
abbrev pub repeats_of : List Value → List Repeat
repeats_of [] = []
repeats_of (v ∷ vs) = with_first v (repeats_of vs)

-- what comes first of these is another value
abbrev pub BeginsOtherwise : Value → List Repeat → Type 0
BeginsOtherwise v [] = ⊤
BeginsOtherwise v (r ∷ rs) = ¬ (v ≡ r.value)

-- Each value stands there at least once, and neighbours aren't equal.
abbrev pub AreParted : List Repeat → Type 0
AreParted [] = ⊤
AreParted (r ∷ rs) = (0 < r.count) × BeginsOtherwise r.value rs × AreParted rs

-- values in a row are those of their repeats
abbrev pub RepeatsHoldValues : Type 0
RepeatsHoldValues = (vs : List Value) → values_of (repeats_of vs) ≡ vs

-- and these are parted
abbrev pub RepeatsAreParted : Type 0
RepeatsAreParted = (vs : List Value) → AreParted (repeats_of vs)

-- the last of these is this value
abbrev pub EndsIn : Value → List Repeat → Type 0
EndsIn v [] = ⊥
EndsIn v (r ∷ []) = r.value ≡ v
EndsIn v (r ∷ s ∷ rs) = EndsIn v (s ∷ rs)

-- the last of these more often
abbrev pub more_of_last : ℕ → List Repeat → List Repeat
more_of_last n [] = []
more_of_last n (r ∷ []) = record { value = r.value; count = r.count + n } ∷ []
more_of_last n (r ∷ s ∷ rs) = r ∷ more_of_last n (s ∷ rs)
